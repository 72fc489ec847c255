mod Codes
pub mod OfRequest
mod ClassifyLoop
mod CompleteLoop
