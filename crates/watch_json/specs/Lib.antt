-- helper
pub mod Values
pub mod Slaves
pub mod Lines
pub mod Racks
