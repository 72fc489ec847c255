pub mod LookUpAgrees
pub mod ReaderAnswers
mod FillLoop
