pub mod Counting
pub mod Ascending
