-- helper
pub mod FrameText
pub mod Access
pub mod FunctionCode
pub mod FrameExamples
pub mod Stream
pub mod StreamExamples
pub mod Encoding
pub mod Lent
pub mod Replies
pub mod Names
pub mod WrongEnd
