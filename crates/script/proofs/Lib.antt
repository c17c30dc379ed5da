pub mod Example
pub mod Rows
mod Turn
