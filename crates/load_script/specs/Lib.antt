pub mod Loads
pub mod LoadLaws
pub mod Rows
