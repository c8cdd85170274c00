pub mod Verdicts
pub mod Routed
pub mod Placed
pub mod Whole
