pub mod ReadBack
pub mod Rows
pub mod Screening
