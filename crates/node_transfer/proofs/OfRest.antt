-- Nodes at which nobody moves.
pub mod Quiet
pub mod Idle
pub mod Ready
