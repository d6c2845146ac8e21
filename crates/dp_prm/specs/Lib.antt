-- helper
pub mod Lent
pub mod Meaning
pub mod MeaningExamples
pub mod Requests
