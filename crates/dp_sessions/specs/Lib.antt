-- helper
pub mod Codes
pub mod Pools
pub mod SessionProgress
pub mod Sessions
pub mod Ended
pub mod Operators
pub mod Operating
pub mod Tied
pub mod TiedOperators
pub mod Dropped
pub mod Recorded
pub mod Recording
pub mod ServedJobs
pub mod KeptSessions
pub mod KeptAt
pub mod SessionSteps
