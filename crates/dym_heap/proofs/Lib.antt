pub mod Chunks
pub mod Tidy
pub mod HandleSteps
pub mod Taking
pub mod Parts
pub mod ShelfParts
pub mod Sizes
pub mod PlaceSteps
pub mod PlaceCalls
pub mod PlaceFacts
pub mod PlaceUndo
pub mod Starts
pub mod Flats
pub mod Arranged
pub mod Owned
pub mod Turned
pub mod Pairs
pub mod ShelfCalls
pub mod ShelfCopies
pub mod ShelfGrows
pub mod Opening
pub mod Fills
pub mod Moves
pub mod NextUsed
pub mod NextLive
mod NewMarks
pub mod Cleans
mod Touches
pub mod Joins
pub mod Lending
pub mod LendingCalls
pub mod Loads
pub mod Skips
pub mod PlaceLoads
pub mod ShelfLoads
mod Aligned
mod AreaBindings
pub mod AreaLists
pub mod RecordLoads
pub mod PlaceShapes
pub mod Counts
pub mod Emptied
pub mod Wants
pub mod AreaSteps
pub mod Reshapes
pub mod Fetches
pub mod Fitting
pub mod HeapUndo
pub mod Sums
mod ShelfStarts
mod Addresses
mod Offsets
mod Ranges
