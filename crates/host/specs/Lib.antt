pub mod Step
pub mod StepLaws
pub mod FoundStates
pub mod WakeEdges
pub mod Outcomes
pub mod Computing
pub mod Rows
