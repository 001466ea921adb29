pub mod Completion
pub mod Ends
