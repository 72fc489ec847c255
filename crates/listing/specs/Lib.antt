pub mod Adds
pub mod Cases
pub mod Text
