pub mod Judgment
pub mod ScanStep
