pub mod Faults
pub mod Source
pub mod Sink
pub mod Laws
pub mod Memory
