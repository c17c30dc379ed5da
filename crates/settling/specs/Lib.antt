pub mod Standings
pub mod IdleSet
pub mod AfterMoves
pub mod TableOf
pub mod TableLaws
pub mod Rows
