-- `best` is who leads the slots so far. Assumes nothing.
use Rattle.std.proofs.Common.{◌≡◌}
use Rattle.policy.specs.OneAccount.{share_of}
use Rattle.policy.proofs.FloorLoop.{floor_of}
use Rattle.policy.proofs.Scheduler.floor.Given as goal

abbrev pub invariant-loop-i : goal.invariant-loop-i
invariant-loop-i l = l.best ≡ share_of l.s l.self l.now (floor_of l.s l.self l.now l.i)
