pub mod HostText
pub mod Rooms
pub mod Lengths
pub mod Rows
