pub mod Cases
pub mod Decimals
mod Fields
mod Lengths
mod Numerals
mod Signs
mod SlotLinesLoop
