pub mod Demands
pub mod Delivers
pub mod FirstPage
pub mod RoundTrip
pub mod WatchIsLeast
