pub mod ReadBack
pub mod Tabulate
mod NumberAt
pub mod Opening
pub mod WholeFile
pub mod OnlyEncoded
pub mod Rows
