pub mod AfterLoop
pub mod RowLoops
pub mod InsideLoop
