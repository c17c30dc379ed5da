-- None of the slots so far joined the pool. Assumes nothing.
use Rattle.std.proofs.Common.{◌≡◌, false}
use Rattle.policy.specs.OneAccount.{some_join}
use Rattle.policy.proofs.Scheduler.some_joined.Given as goal

abbrev pub invariant-loop-i : goal.invariant-loop-i
invariant-loop-i l = some_join l.s l.self l.i ≡ false
