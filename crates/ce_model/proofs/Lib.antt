pub mod AloneByEntries
pub mod BlockOrder
pub mod CallNumbers
pub mod Members
pub mod OneMore
pub mod Rows
pub mod Subcubes
pub mod Walked
