pub mod Berths
pub mod Bound
pub mod HeldIds
pub mod OwnSegments
pub mod QueueShape
pub mod SegmentRule
pub mod SegmentSteps
pub mod Waves
