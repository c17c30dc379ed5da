-- After i turns of the loop the file is stored as far as the first i slots write it. Assumes nothing.
use Rattle.usage_write.specs.Written.{figures_of}
use Rattle.usage_write.proofs.Fits.{FitBelow}
use Rattle.usage_write.proofs.FileLoop.{Stored}
use Rattle.usage_write.proofs.write.Given as goal

abbrev pub invariant-loop-i : goal.invariant-loop-i
invariant-loop-i l =
    record {
      stored : Stored (figures_of l.s l.p l.now) l.i l.bytes l.length;
      fit : FitBelow (figures_of l.s l.p l.now) l.i;
    }
