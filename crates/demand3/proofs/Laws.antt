-- What other crates cite of these proofs.

-- demand 3, of every list of calls of every fresh host
pub use Rattle.demand3.proofs.Demand3.{demand_3}
-- and of what building a host hands back
pub use Rattle.demand3.proofs.Built.{built-holds}
-- where clocks do not run back no run time is cut
pub use Rattle.demand3.proofs.Uncut.{uncut}
-- whoever no weight was set for ranks as one set to 256
pub use Rattle.demand3.proofs.Unset.{unset-ranks}
-- each vCPU record keeps the pCPU that it was last dispatched onto
pub use Rattle.demand3.proofs.LastPcpu.{last-kept}
-- the book and the dated moves say the same of who holds a pCPU since when
pub use Rattle.demand3.proofs.MovesTell.{moves-tell}
-- ---- of every lawful machine

-- at every point, at every call, and beside them
pub use Rattle.demand3.proofs.AtPoint.{machine_at-point, machine_at-call}
pub use Rattle.demand3.proofs.MovesTell.{machine_tells}
pub use Rattle.demand3.proofs.Uncut.{machine_uncut}
pub use Rattle.demand3.proofs.LastPcpu.{machine_keeps-last}
-- as an advance returns, under any rule
pub use Rattle.demand3.proofs.AfterAdvance.{after-advance}
-- it is in step with its book, and every call keeps it so; what a call enters is made line by line, and what an advance enters is
-- never refused
pub use Rattle.demand3.proofs.EveryCall.{Kept, step-goes, after_kept, moved-done}
pub use Rattle.demand3.proofs.Entering.{Enters, call_enters}
-- the moves of a trace are such as the mechanism allows
pub use Rattle.demand3.proofs.ServiceMachine.{trace-enacts}
-- ---- of the service host

-- it is lawful, its fresh host is in step with the blank book, and a list leaves of it what it leaves of a host
pub use Rattle.demand3.proofs.ServiceMachine.{service_lawful, host-after-same}
pub use Rattle.demand3.proofs.FreshHost.{fresh_in_step, fresh_kept}
