pub mod Laws
mod IdleSet
mod Limit
mod DecidedChoice
mod OneMove
mod TableFollows
mod SettledMoves
mod SlotStored
