-- helper
pub mod FieldWords
pub mod Rows
pub mod DataLengths
pub mod SlaveRows
pub mod Head
pub mod Limits
pub mod Reading
pub mod HeadLines
pub mod HeadExamples
