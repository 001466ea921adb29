pub mod AnswerLaws
pub mod KeepingLaws
pub mod ClashLaws
pub mod FareLaws
pub mod LookUpLaws
pub mod JourneyLaws
pub mod Examples
