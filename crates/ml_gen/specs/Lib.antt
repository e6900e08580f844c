pub mod Group
pub mod Thing
pub mod Turn
pub mod Totals
