pub mod DeletingLaws
pub mod OverlapLaws
pub mod GrowLaws
