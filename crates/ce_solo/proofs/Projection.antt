-- What a lawful history of the machine is for one cube is a trace that the cube gives alone.
pub mod Numbers
pub mod Answers
pub mod Calls
pub mod Entries
pub mod Views
pub mod Held
pub mod Invariant
pub mod Own
pub mod Kinds
pub mod Law
pub mod Legal
pub mod StillFits
