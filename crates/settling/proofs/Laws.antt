-- What other crates cite of these proofs.

-- a decision over the table of a system is the choice, and settling over it is settling of the system, under any steady rule
pub use Rattle.settling.proofs.DecidedChoice.{decided-choice}
pub use Rattle.settling.proofs.SettledMoves.{settled-moves, settled-system, settle-none}
-- filling the table slot by slot, and its idle set
pub use Rattle.settling.proofs.SlotStored.{no_slots, slot-stored}
pub use Rattle.settling.proofs.IdleSet.{idle-set-is}
-- the most moves of an advance are few
pub use Rattle.settling.proofs.Limit.{limit-small}
