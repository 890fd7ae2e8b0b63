pub mod Counts
pub mod Faults
pub mod Memory
pub mod ReadError
pub mod Sink
pub mod Source
pub mod Standard
pub mod Whole
