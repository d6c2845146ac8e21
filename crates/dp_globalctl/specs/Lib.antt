-- helper
pub mod Command
pub mod ControlExamples
