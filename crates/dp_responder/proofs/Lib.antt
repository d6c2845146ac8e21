pub mod Memories
pub mod Refusals
