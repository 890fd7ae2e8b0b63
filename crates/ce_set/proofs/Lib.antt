pub mod Covers
pub mod Masks
pub mod Numbers
pub mod Steps
pub mod WordBits
