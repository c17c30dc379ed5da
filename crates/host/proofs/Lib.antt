pub mod Laws
mod Verdicts
mod Snapshots
mod WakeEdges
mod Accepting
mod FoundStates
pub mod LastSlots
