pub mod Crossings
pub mod Due
pub mod Numbers
