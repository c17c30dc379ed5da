-- The accounts of the slots so far are renewed. Assumes nothing.
use Rattle.std.proofs.Common.{◌≡◌}
use Rattle.policy.specs.OneAccount.{renew_by}
use Rattle.policy.proofs.Scheduler.renew.Given as goal

abbrev pub invariant-loop-i : goal.invariant-loop-i
invariant-loop-i l = l.self ≡ renew_by l.s l.fn.self l.floor l.i
