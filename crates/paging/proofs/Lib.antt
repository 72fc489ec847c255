pub mod Decided
mod Drawn
mod Ends
pub mod Enumerates
mod Filling
mod GivenPlan
mod MarksRise
pub mod NextIsFirst
mod PartingLoops
mod PartingSearch
mod PartsAt
pub mod Passes
mod PlanTest
