-- helper
pub mod TimeRows
pub mod DayTimes
pub mod PlaceTimes
pub mod ReadRows
