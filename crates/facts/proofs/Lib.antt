pub mod Integers
pub mod Lists
pub mod Naturals
pub mod Signs
pub mod Tests
