pub mod Apart
pub mod HomeBlocks
pub mod Names
pub mod Rises
