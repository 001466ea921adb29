pub mod DecimalLaws
pub mod LetterLaws
pub mod TextLaws
pub mod CallLaws
