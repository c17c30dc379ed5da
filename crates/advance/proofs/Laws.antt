-- What other crates cite of these proofs.

-- what an advance of a sound system does, and that its accounting keeps the slice
pub use Rattle.advance.proofs.Enacting.{accounted-slice, advance-does}
-- what `next` recommends is accepted, and an advance's moves are the mechanism's calls
pub use Rattle.advance.proofs.Recommendations.{enacted-run, enacted-preempt, next-run-accepted, next-preempt-accepted, next-placed}
-- what it answers, by ids
pub use Rattle.advance.proofs.ByIds.{next-preempts, next-least}
-- nothing but the pCPU of a Run depends on where vCPUs were last
pub use Rattle.advance.proofs.Forgetting.{next-forgets}
