pub mod Joins
pub mod SendingFacts
pub mod LineFacts
pub mod OutFacts
