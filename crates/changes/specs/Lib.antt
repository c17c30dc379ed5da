pub mod Records
pub mod Changes
pub mod StateTold
pub mod HandsBack
pub mod Rows
