-- What other crates cite of these proofs.

-- the call drawn from a state, kind by kind
pub use Rattle.load_calls.proofs.CallLaws.{admit-call, block-call, wake-call, mask-call, advance-call}
-- an id is below its count, and 0 where that is 0
pub use Rattle.load_calls.proofs.Ids.{id-none, id-remainder, dom-below, dom-none, vcpu-below, vcpu-none}
-- the clock never runs back, nor on by more than 99
pub use Rattle.load_calls.proofs.Clock.{step-adds, clock-never-back, clock-moves, clock-below}
-- from a state that is not 0 no call leads to 0
pub use Rattle.load_calls.proofs.States.{state-below, state-nonzero}
-- the fields of a call's record fit their types
pub use Rattle.load_calls.proofs.Widths.{call_fits}
-- a record is read as the call that is meant
pub use Rattle.load_calls.proofs.Meaning.{read_as_meant}
