-- helper
pub mod Comments
pub mod Captured
pub mod Captures
pub mod Blocks
pub mod ReadBack
pub mod BlockExamples
