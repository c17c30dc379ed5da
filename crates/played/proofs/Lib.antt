mod Plans
pub mod Played
pub mod Stretches
