pub mod Boxes
pub mod Holding
pub mod Sound
pub mod Peeks
