mod Examples
pub mod Division
