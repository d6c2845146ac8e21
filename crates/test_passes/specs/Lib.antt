-- helper
pub mod Threads
pub mod Pools
