-- `script::Script::replay`: i records were taken, and the frame is that of the system as it is now. Assumes nothing.
use Rattle.std.proofs.Common.{◌≡◌}
use Rattle.text.specs.Places.{Placed}
use Rattle.script.specs.Frames.{IsFrameOf}
use Rattle.script.specs.Script.{script_after, text}
use Rattle.script.proofs.Script.replay.Given as goal

abbrev pub invariant-loop-i : goal.invariant-loop-i
invariant-loop-i l =
    record {
      script : l.self ≡ script_after l.fn.self l.bytes l.i;
      placed : Placed l.fn.out 0 (text l.states l.fn.self l.bytes l.i) l.out l.written;
      frame : IsFrameOf l.self.host l.frame;
    }
