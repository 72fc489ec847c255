pub mod Far
pub mod Free
pub mod Lacks
pub mod Mirror
pub mod Parts
pub mod Places
pub mod Reach
pub mod Tilings
