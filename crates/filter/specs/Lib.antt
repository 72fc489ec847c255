pub mod AnswerMeaning
pub mod OpenIfLost
