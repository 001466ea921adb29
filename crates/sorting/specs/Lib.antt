pub mod Sorting
pub mod Sorted
pub mod Carrying
pub mod Keys
