pub mod LookUp
pub mod Reading
