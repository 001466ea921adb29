pub mod Price
pub mod Files
pub mod Slices
pub mod Lent
pub mod Listed
pub mod Writing
pub mod Limits
