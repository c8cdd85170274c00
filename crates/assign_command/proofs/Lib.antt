pub mod ReceiptFacts
pub mod LoadFacts
pub mod IterateFacts
pub mod AssignFacts
