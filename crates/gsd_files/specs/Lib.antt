-- helper
pub mod Steps
pub mod Rows
pub mod Values
pub mod Keys
pub mod UserParameters
pub mod Defaults
pub mod Reading
pub mod Files
pub mod Left
pub mod Naming
pub mod Plugged
pub mod GsdText
pub mod WrittenRows
