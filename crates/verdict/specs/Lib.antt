pub mod Violations
pub mod OneViolation
pub mod Sound
pub mod Rows
