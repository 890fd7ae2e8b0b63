pub mod Lives
pub mod Memories
pub mod Runs
pub mod OwnStates
pub mod Windows
