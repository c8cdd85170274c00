pub mod Texts
pub mod Watch
pub mod Examples
