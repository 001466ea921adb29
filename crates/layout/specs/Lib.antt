pub mod Header
pub mod Sheets
pub mod Tables
pub mod Judged
pub mod Slices
pub mod Lent
pub mod Lines
