-- helper
pub mod CauseTexts
pub mod SystemErrors
