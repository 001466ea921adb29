pub mod RankingLaws
pub mod PlaceLaws
pub mod ListedLaws
pub mod Examples
