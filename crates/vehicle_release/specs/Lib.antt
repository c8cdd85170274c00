pub mod Limits
pub mod Unnumbered
pub mod Examples
