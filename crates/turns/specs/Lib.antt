pub mod Turn
pub mod Outcomes
