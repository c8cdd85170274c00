pub mod Grants
pub mod Meter
pub mod Course
pub mod Outlooks
pub mod Examples
