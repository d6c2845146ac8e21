-- helper
pub mod Answers
