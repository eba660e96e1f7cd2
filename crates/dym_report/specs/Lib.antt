pub mod Handles
pub mod Hex
pub mod Entries
pub mod Replies
pub mod Objects
pub mod Orders
pub mod Late
pub mod Summary
