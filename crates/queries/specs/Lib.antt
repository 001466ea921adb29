pub mod Queries
pub mod Pair
pub mod Calls
