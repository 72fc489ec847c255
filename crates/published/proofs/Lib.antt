pub mod Corners
pub mod Draws
pub mod Examples
pub mod Sets
pub mod LoadsFrom
pub mod Theorems
pub mod Drawn
