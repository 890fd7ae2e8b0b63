-- A node with other names for its blocks says and hears the same, renamed.
pub mod Lists
pub mod Memory
pub mod Instruction
pub mod Store
pub mod Nodes
pub mod Calls
pub mod Messages
pub mod Turns
pub mod Answers
pub mod Grants
