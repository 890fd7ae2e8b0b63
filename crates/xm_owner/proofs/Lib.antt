pub mod KeyOrder
pub mod Mappings
pub mod Places
pub mod Drained
