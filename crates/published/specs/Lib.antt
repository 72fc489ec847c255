pub mod Examples
pub mod Published
