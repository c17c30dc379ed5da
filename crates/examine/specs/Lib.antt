pub mod Examine
