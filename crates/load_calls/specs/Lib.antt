pub mod Calls
pub mod Rows
pub mod Meant
