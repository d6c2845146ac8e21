-- helper
pub mod Ports
pub mod PortExamples
pub mod Screening
pub mod PortFiles
