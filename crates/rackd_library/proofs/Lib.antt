pub mod AsBox
mod Openings
pub mod Sharing
