pub mod NewLine
