pub mod HexFacts
pub mod KeptLists
pub mod PieceLists
pub mod StoredReplies
