-- helper
pub mod Answers
pub mod AnswerExamples
