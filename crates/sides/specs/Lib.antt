pub mod Far
pub mod Lacks
pub mod Reach
pub mod Sides
