pub mod Draws
pub mod Commands
pub mod Scripts
pub mod Laws
pub mod GrammarLaws
