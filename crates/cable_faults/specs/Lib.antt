-- helper
pub mod Whole
pub mod Chances
pub mod Treatments
pub mod Decisions
pub mod Obeying
pub mod Paces
pub mod Passing
pub mod Faultless
pub mod LineTexts
pub mod Rows
pub mod CableExamples
