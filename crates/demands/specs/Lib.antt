pub mod Demands
pub mod Operation
pub mod RoundTrip
