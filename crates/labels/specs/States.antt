-- The states in which links end, and the ways on from there.
pub mod LinkStates
pub mod Onwards
pub mod RouterWays
pub mod Routers
pub mod Spans
