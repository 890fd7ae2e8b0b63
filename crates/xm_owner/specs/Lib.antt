pub mod Holdings
pub mod HeldTables
pub mod Loans
pub mod Ranges
pub mod Tables
