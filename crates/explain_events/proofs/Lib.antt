pub mod Digits
pub mod Asking
pub mod Noting
pub mod Splitting
pub mod Differing
