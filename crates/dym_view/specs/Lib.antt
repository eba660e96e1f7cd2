pub mod Commits
pub mod Copies
pub mod Histories
pub mod LoadedHeaps
pub mod Rules
pub mod Answers
