pub mod Numbers
pub mod Reads
