-- helper
pub mod Advances
pub mod Moments
pub mod TimeExamples
