pub mod Ahead
pub mod Joined
pub mod Lasts
pub mod Numbers
pub mod Traces
