-- After i turns of the loop of `policy::Scheduler::set_wake_boost` the first i offsets are cleared. Assumes nothing.
use Rattle.std.proofs.Common.{◌≡◌}
use Rattle.policy.proofs.ClearLoop.{clear_first}
use Rattle.policy.proofs.Scheduler.set_wake_boost.Given as goal

abbrev pub invariant-loop-a : goal.invariant-loop-a
invariant-loop-a l = l.a-items ≡ clear_first l.initial.a-items l.a-index
