pub mod Outcome
pub mod Receipts
pub mod Calls
pub mod Headline
pub mod Program
pub mod Laws
