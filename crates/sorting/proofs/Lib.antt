pub mod SortingLaws
pub mod SortedLaws
pub mod PlaceLaws
pub mod CarryingLaws
pub mod KeyLaws
