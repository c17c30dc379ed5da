-- `load::put_script` ends: each stretch hands out a record at least. Assumes nothing.
use Rattle.std.proofs.Common.{◌≡◌, length}
use Rattle.load_script.specs.Loads.{size}
use Rattle.load.proofs.put_script.Given as goal

abbrev pub invariant-loop-left : goal.invariant-loop-left
invariant-loop-left l = length l.out ≡ 60000

abbrev pub decreases-loop-left : goal.decreases-loop-left
decreases-loop-left l = size l.left
