pub mod Numbers
pub mod PrivateSize
