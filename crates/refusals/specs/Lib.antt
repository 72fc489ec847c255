pub mod Answer
pub mod Numbers
pub mod Shown
pub mod Table
