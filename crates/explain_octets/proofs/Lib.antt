pub mod Naming
pub mod Splitting
pub mod Slots
pub mod Cutting
pub mod Bits
pub mod DataUnits
