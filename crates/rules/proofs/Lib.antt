pub mod Laws
pub mod ChoiceLaws
mod OneMove
mod DueLaws
mod Potential
mod Sums
mod Traces
