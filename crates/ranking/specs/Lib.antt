pub mod Ranking
pub mod Ranked
pub mod Results
pub mod Places
pub mod Calls
