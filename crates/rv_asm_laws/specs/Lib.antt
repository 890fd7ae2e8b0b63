pub mod Before
pub mod Effects
pub mod Forms
pub mod LabelFaults
pub mod LineFaults
pub mod Listing
pub mod Laws
