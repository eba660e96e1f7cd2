pub mod Workers
pub mod Moves
pub mod Endings
pub mod Times
