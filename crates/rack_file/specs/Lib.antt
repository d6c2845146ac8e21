-- helper
pub mod Codes
pub mod Names
pub mod FaultText
pub mod KeyFault
pub mod Misreads
pub mod Rack
pub mod TomlKeys
pub mod Gives
pub mod RackFile
pub mod Lines
pub mod Suggestions
pub mod Causes
pub mod RackFileExamples
