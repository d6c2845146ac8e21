pub mod Texts
pub mod Faults
pub mod Fronts
pub mod Streams
pub mod Windows
pub mod Handing
pub mod WrongEnds
pub mod Ends
