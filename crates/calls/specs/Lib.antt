pub mod Typed
pub mod Asked
