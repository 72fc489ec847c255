pub mod CodeMeans
pub mod Means
pub mod PageMeans
pub mod WatchMeans
