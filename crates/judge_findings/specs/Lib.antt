-- helper
pub mod Findings
pub mod Counts
pub mod Summary
pub mod Lines
pub mod FindingExamples
pub mod Tested
