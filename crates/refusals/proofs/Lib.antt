pub mod Answer
pub mod Carried
pub mod Injective
pub mod Table
