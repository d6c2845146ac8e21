-- helper
pub mod DeviceSteps
pub mod EmbeddedLines
pub mod EmbeddedLineExamples
pub mod Sends
pub mod Asking
pub mod Codes
pub mod LineCalls
pub mod RackCalls
pub mod EntryReasons
pub mod RackReasons
