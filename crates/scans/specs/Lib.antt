pub mod Booleans
pub mod Scan
