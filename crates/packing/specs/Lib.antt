pub mod Limits
pub mod Pieces
pub mod Packed
