pub mod Masks
pub mod Laws
pub mod Sets
pub mod Table
