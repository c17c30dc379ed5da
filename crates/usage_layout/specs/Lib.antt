pub mod Layout
pub mod Reading
pub mod Rows
pub mod Files
