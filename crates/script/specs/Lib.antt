pub mod Script
pub mod Frames
pub mod NoCall
pub mod InStretches
pub mod NoCallLaws
pub mod Computing
pub mod Example
pub mod Rows
