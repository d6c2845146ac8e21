mod Ticking
pub mod Crossings
mod Rounds
mod Taking
mod Advancing
