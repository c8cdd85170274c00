pub mod Named
pub mod ToZone
pub mod States
pub mod Filling
pub mod Reading
pub mod Examples
