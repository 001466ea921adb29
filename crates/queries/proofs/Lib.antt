pub mod CallLaws
pub mod PairCallLaws
pub mod OnceLaws
