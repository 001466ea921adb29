pub mod MakingLaws
pub mod SettlingLaws
pub mod TurnLaws
