pub mod Acceptable
pub mod Cases
pub mod Factors
