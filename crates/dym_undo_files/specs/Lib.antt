pub mod TakenAgain
pub mod TakenChains
pub mod BroughtHeaps
pub mod LoadedLogs
pub mod RecordedLogs
pub mod Laws
