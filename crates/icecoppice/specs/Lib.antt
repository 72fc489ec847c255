pub mod FileNumbers
pub mod Numbers
pub mod PageNumbers
pub mod WatchNumbers
