pub mod CutParts
pub mod Cutting
pub mod Digits
pub mod NameTables
pub mod Splitting
pub mod Tables
pub mod WordCuts
