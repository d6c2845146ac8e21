-- helper
pub mod Identifiers
pub mod IdentifierExamples
pub mod Choosing
pub mod ChoosingExamples
pub mod PrivateWords
pub mod Reading
pub mod Names
