pub mod Items
pub mod Queue
pub mod Targets
pub mod Talk
