-- After i turns of the loop of `Load::fill` the first i records are stored. Assumes nothing.
use Rattle.load_script.proofs.FillLoop.{Stored}
use Rattle.load_script.proofs.Load.fill.Given as goal

abbrev pub invariant-loop-i : goal.invariant-loop-i
invariant-loop-i l = Stored l.fn.self l.fn.out l.self l.out l.i
