pub mod CopyLaws
pub mod WrittenLaws
pub mod AppendedLaws
