-- helper
pub mod Positions
pub mod Chain
pub mod Threaded
pub mod Walk
pub mod Reading
pub mod Mending
