pub mod FirstCubes
pub mod Hearings
pub mod NextEntry
pub mod NextOwner
pub mod Opening
pub mod Replies
pub mod Rows
pub mod WaitingMail
