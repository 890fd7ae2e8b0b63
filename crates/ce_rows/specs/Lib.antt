pub mod RowEntries
pub mod Rows
