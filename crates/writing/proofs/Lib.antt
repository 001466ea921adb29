pub mod WritingLaws
pub mod StepLaws
