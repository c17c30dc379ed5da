pub mod Xorshift
pub mod Rows
