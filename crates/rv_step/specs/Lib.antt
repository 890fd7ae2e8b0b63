pub mod MemoryChange
pub mod EventOutcome
