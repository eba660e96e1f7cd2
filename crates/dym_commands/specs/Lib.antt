pub mod Requests
pub mod Handles
pub mod Hexes
pub mod StoredCommands
pub mod Pieces
pub mod Reads
pub mod Replies
