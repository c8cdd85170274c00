pub mod TellFacts
pub mod AnswerFacts
