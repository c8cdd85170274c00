pub mod Scales
pub mod Examples
