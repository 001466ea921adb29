pub mod Decimal
pub mod Text
pub mod Room
pub mod Slices
pub mod Calls
