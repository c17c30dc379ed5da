-- What other crates cite of these proofs.

-- a move that may be made is not refused; what it leaves is sound
pub use Rattle.rules.proofs.OneMove.{run-enacted, run-wrote, run-keeps, preempt-enacted, preempt-wrote, preempt-keeps}
-- under any rule whose slice is at least 1: at most two moves a pCPU, and rest at the end, where nobody who is not barred waits beside
-- an idle pCPU that its mask admits
pub use Rattle.rules.proofs.Traces.{run, preempt, Trace, rest, settle-trace, trace-keeps, trace-few, trace-two, advance-rests}
pub use Rattle.rules.proofs.Traces.{rest-quiet}
-- under any rule: rest at the end or as many moves as may be made, nobody joins the pool or departs from it
pub use Rattle.rules.proofs.Traces.{settle-ends, settle-most, trace-pooled}
