-- helper
pub mod Ending
