pub mod Fault
pub mod Rki1
