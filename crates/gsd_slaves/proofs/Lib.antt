pub mod Unwritten
pub mod Joins
pub mod Appended
