pub mod JoinedLaws
pub mod FileLaws
pub mod PackLaws
pub mod ReadWrite
pub mod Judged
pub mod WriteRead
pub mod Within
