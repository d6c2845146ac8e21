-- helper
pub mod Kept
pub mod Notable
pub mod Watched
pub mod Rack
