pub mod Writing
pub mod Opening
pub mod WithPorts
mod AuditTexts
mod SortedPasses
mod PoolSessions
pub mod AnsweredMasters
