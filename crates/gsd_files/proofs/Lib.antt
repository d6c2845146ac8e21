pub mod Words
pub mod Decimals
pub mod Joins
pub mod Modes
pub mod ReadBack
pub mod ShortRows
pub mod ReadRows
