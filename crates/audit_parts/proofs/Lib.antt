pub mod Taking
pub mod Heads
pub mod Alone
pub mod Filtering
pub mod StillGiven
