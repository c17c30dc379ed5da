-- What other crates cite of these proofs.

-- how a call can end: what holds of the system, and of every change that can be made to it, holds of what the call leaves; a
-- request that passes every test is made
pub use Rattle.sched.proofs.Cases.{requested_case, offline-all_case, requested-made}
-- a request is what its stores leave, by the records that it reads; a refusal hands them back
pub use Rattle.sched.proofs.RequestInPlace.{by-stores, requested-by-stores, effect_hands-back}
-- a system as built is sound
pub use Rattle.sched.proofs.Fresh.{fresh-tables, fresh-vcpu, fresh-sound}
-- what every call keeps: soundness and the shape; run times never fall
pub use Rattle.sched.proofs.Invariants.{made-keeps, unchanged, and_then, requested-keeps, first-keeps, offline-all-keeps}
-- what a change may do to a sound system, and that it leaves a sound one
pub use Rattle.sched.proofs.Legal.{NotRunning, keeps, Legal, stays, busy, goes_on, goes_off}
-- on a sound system every request is a legal change
pub use Rattle.sched.proofs.LegalRequests.{off_nr, ready_nr, blocked_nr, made_legal}
-- `offline_all` is `offline` of each vCPU of the domain
pub use Rattle.sched.proofs.OfflineEach.{offline-all-each}
