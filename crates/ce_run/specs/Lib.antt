pub mod Fault
pub mod Causes
pub mod Promise
pub mod UserStates
pub mod Asking
pub mod Rounds
pub mod Script
