-- helper
pub mod Names
pub mod GsdRuns
pub mod ModuleLists
pub mod SlaveText
pub mod SlaveRuns
