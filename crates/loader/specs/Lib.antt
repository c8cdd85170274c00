pub mod Gates
pub mod CountGates
pub mod Watching
pub mod Crews
pub mod Loads
pub mod Examples
