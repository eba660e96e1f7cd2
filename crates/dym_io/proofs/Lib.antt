pub mod Pieces
pub mod ReadSoFar
pub mod Digits
pub mod Fronts
