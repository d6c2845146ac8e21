-- helper
pub mod Diagnosis
pub mod DiagnosisText
pub mod DiagnosisTextExamples
pub mod Lent
