pub mod Progress
pub mod Receipts
pub mod Calls
pub mod Examples
