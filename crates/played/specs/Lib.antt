pub mod Played
pub mod Stretches
pub mod Example
