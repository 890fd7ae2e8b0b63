-- Worked rows, computed by the definitions.
pub mod Cubes
pub mod Dead
pub mod Gone
pub mod Grants
pub mod Hello
pub mod Holders
pub mod KernelCalls
pub mod Polling
pub mod SixEntries
pub mod Unborn
pub mod UsedAgain
