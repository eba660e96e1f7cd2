pub mod Commands
pub mod Laws
pub mod Meaning
pub mod Turns
