pub mod RecordLaws
pub mod SliceLaws
pub mod FitsLaws
pub mod WritingLaws
