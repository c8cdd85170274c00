pub mod Whereabouts
pub mod Counts
pub mod Examples
