pub mod Written
pub mod Rows
pub mod Laws
