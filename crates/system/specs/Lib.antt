pub mod Answers
pub mod States
pub mod Records
pub mod Shape
pub mod Slots
pub mod Reads
pub mod Writes
pub mod Rows
