pub mod ClearingLaws
pub mod ClosingLaws
pub mod CallLaws
pub mod LimitLaws
pub mod KeptLaws
