pub mod Answers
pub mod Prices
pub mod Journeys
pub mod Kept
pub mod Clashes
pub mod Fares
pub mod Faring
