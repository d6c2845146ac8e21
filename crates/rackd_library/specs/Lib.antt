-- helper
pub mod Held
pub mod Answers
pub mod Names
pub mod BlankFacts
pub mod DoneFacts
pub mod ReasonFacts
pub mod Why
