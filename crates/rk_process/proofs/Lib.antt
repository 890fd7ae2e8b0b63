pub mod Found
pub mod Goners
pub mod Keeping
pub mod Reaching
pub mod Sites
