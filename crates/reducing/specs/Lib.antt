pub mod SameFare
pub mod Answers
