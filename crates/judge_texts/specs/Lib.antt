-- helper
pub mod Judging
pub mod Runs
pub mod RowsJudged
pub mod Laws
pub mod JudgingExamples
