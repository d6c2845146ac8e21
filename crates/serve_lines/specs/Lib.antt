-- helper
pub mod ServedLines
pub mod Listening
pub mod OpenedLines
pub mod ReturnedPasses
pub mod MasterSessions
pub mod AuditTexts
pub mod ServingLines
