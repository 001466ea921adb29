pub mod EachLaws
pub mod LineLaws
pub mod StepLaws
pub mod ChainLaws
pub mod DirectionLaws
pub mod VerdictLaws
