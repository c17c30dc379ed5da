pub mod Service
pub mod Laws
pub mod Fractions
