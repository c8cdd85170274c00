pub mod AnswerFacts
pub mod RunFacts
pub mod ReceiptFacts
pub mod EqualRuns
