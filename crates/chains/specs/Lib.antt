pub mod Verdict
pub mod Chains
pub mod Answers
