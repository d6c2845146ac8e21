-- helper
pub mod Rules
pub mod Memory
pub mod Judgement
pub mod JudgementExamples
