pub mod Paging
pub mod Pages
pub mod Parting
