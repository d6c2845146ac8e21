pub mod Splits
pub mod RunningSums
pub mod Readings
pub mod Choices
