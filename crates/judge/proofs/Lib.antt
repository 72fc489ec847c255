pub mod Allowed
pub mod JudgeAnswers
pub mod LegalLoop
pub mod ScanStep
