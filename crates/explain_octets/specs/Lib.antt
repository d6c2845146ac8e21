-- helper
pub mod Words
pub mod Points
pub mod Faults
pub mod Kinds
pub mod DpV1
pub mod Parameters
pub mod Configurations
pub mod Commands
pub mod Blocks
pub mod Diagnoses
pub mod Contents
pub mod Replies
pub mod PrivateWords
pub mod KindExamples
pub mod ContentsExamples
pub mod BlockExamples
pub mod ReplyExamples
