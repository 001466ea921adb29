pub mod Reduced
pub mod OneNormal
pub mod Check
