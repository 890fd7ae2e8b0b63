pub mod Decoded
pub mod Joined
pub mod Masks
pub mod Ranges
pub mod Rows
pub mod Unambiguous
