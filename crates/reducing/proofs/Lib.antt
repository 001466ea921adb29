pub mod SearchingLaws
pub mod ByLinesLaws
pub mod TurnLaws
pub mod SameFareLaws
pub mod PairingLaws
