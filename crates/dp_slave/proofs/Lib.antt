pub mod Lengths
pub mod Lives
pub mod Sounds
pub mod Factors
pub mod Reaches
pub mod Suits
