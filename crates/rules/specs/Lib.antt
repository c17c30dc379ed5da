pub mod Rules
pub mod Choices
pub mod ChoiceLaws
pub mod Due
pub mod Settle
pub mod Steady
pub mod Rows
