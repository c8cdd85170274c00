pub mod Examples
pub mod Quantity
pub mod Reading
pub mod Spelling
pub mod Units
pub mod Zone
