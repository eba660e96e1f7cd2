pub mod Lines
pub mod Sizes
pub mod FixedCommands
pub mod Lengths
pub mod GoodWords
pub mod GoodCommands
pub mod GoodLines
pub mod GoodScripts
