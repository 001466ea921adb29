pub mod ReplayLaws
pub mod NotingLaws
pub mod TraceLaws
