pub mod OfStep
pub mod OfStart
pub mod OfHandOver
pub mod OfCounts
pub mod OfMail
pub mod OfRest
