pub mod Areas
pub mod Waiting
pub mod Work
pub mod Desk
