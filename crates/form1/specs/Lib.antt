pub mod Form1
pub mod Layout
pub mod Opening
