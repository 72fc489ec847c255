pub mod States
pub mod Start
pub mod Tested
pub mod Promise
