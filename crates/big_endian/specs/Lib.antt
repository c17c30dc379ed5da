pub mod Numbers
pub mod Laws
pub mod Stores
pub mod Rows
