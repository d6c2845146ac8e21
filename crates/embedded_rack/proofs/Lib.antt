pub mod Writing
mod Passing
pub mod Sending
pub mod RackLines
mod Calls
mod Replaying
