pub mod Rows
pub mod Taking
pub mod Deciding
pub mod Texts
pub mod FirstRow
pub mod Sizes
pub mod ReadBack
