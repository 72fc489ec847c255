pub mod Request
pub mod Promise
pub mod Demand3
pub mod Cases
pub mod Best
pub mod Drawing
pub mod Solution
