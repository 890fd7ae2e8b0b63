pub mod Pieces
pub mod Ends
mod Calling
mod StatesBehind
mod Further
mod AtOnce
mod Peeking
mod Looking
mod Sent
mod Granted
mod Returned
mod Carrying
mod Going
mod Answering
