pub mod Entries
pub mod Meanings
pub mod OneOrder
pub mod Telling
pub mod Sitting
pub mod Chairs
