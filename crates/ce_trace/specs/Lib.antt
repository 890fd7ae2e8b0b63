pub mod Links
pub mod Sections
pub mod Spaced
