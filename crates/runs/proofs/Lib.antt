pub mod KeepsLaws
pub mod FallsLaws
pub mod RunLaws
pub mod RefusalLaws
pub mod CheckedLaws
pub mod StartingLaws
pub mod RunningLaws
pub mod CloseLaws
