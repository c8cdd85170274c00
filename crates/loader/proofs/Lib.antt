pub mod Steps
pub mod Shown
pub mod Watches
pub mod Loadings
