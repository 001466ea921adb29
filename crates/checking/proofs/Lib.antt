pub mod VerdictLaws
pub mod ReducedLaws
pub mod OneNormalLaws
pub mod CallLaws
pub mod OnceLaws
