pub mod Encoding
pub mod Valid
