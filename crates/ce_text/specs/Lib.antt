pub mod Bytes
pub mod Line
pub mod Name
pub mod Names
pub mod Number
pub mod Table
pub mod Words
