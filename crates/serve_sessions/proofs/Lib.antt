pub mod Recording
pub mod Naming
pub mod Sharing
mod Pairs
