pub mod BitmapLemmas
pub mod ByteBits
pub mod Counts
pub mod Searches
pub mod Subsets
pub mod UsedWords
pub mod WordByWord
