-- The loop of `moves::best_preemption`. Assumes nothing.
use Rattle.std.proofs.Common.{length}
use Rattle.moves.proofs.PreemptionLoop.{Leading}
use Rattle.moves.proofs.best_preemption.Given as goal

abbrev pub invariant-loop-i : goal.invariant-loop-i
invariant-loop-i l = Leading l.rows (length l.rows) l.i l.worst
