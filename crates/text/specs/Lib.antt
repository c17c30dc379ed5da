pub mod Lines
pub mod Lengths
pub mod Numerals
pub mod Places
pub mod AnswerPlaces
pub mod Ascii
pub mod Rows
