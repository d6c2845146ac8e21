-- helper
pub mod AuditPaths
pub mod AuditNames
pub mod Parts
pub mod FileFaults
pub mod TextNumbers
pub mod ReadNames
pub mod TimesPaths
pub mod LineTimes
pub mod DueParts
pub mod DuePartsExamples
