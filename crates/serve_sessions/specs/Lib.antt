-- helper
pub mod Recordings
pub mod Ready
