-- helper
pub mod Numbers
pub mod Words
pub mod Texts
pub mod HexWords
pub mod Events
pub mod OpLines
pub mod Codes
pub mod Writes
pub mod TextExamples
pub mod OpLineExamples
pub mod OperatorLines
