pub mod Lent
pub mod Scan
