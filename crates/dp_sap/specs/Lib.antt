-- helper
pub mod AccessTable
pub mod AccessTableExamples
pub mod SapFault
pub mod Names
pub mod States
