pub mod Laws
pub mod Rows
mod ReadBack
