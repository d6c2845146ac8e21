-- helper
pub mod Codes
pub mod Commands
pub mod CommandView
pub mod ScriptText
pub mod Runs
pub mod FaultTexts
pub mod ReadFaults
pub mod Checks
pub mod CheckExamples
pub mod Input
pub mod InputExamples
pub mod Explanations
