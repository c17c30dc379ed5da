pub mod Laws
mod Nonzero
