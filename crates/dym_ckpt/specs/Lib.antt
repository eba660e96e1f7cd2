pub mod Heads
pub mod RecordOrder
pub mod Lists
pub mod SavedFiles
pub mod FileRecords
pub mod Laws
pub mod FileReads
