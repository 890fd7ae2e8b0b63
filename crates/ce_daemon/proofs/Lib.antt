pub mod Counting
pub mod Partition
pub mod Rows
pub mod Sound
