pub mod Usage
pub mod Sums
pub mod Laws
pub mod Rows
