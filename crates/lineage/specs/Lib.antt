pub mod Lineage
pub mod Noting
