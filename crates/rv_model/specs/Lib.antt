pub mod Exec
pub mod Image
pub mod LittleEndian
pub mod NoMemoryText
pub mod Private
pub mod Sizes
pub mod Word
pub mod Words
