-- helper
pub mod Devices
pub mod DeviceExamples
pub mod DrivenSlaves
