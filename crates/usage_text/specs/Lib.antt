pub mod BodyText
pub mod FileText
pub mod Rows
