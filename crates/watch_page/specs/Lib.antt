-- helper
pub mod Targets
pub mod TargetExamples
pub mod Answers
pub mod Queries
pub mod QueryExamples
