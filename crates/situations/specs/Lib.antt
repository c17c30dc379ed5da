pub mod Situations
pub mod Rows
