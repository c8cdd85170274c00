pub mod Riders
pub mod Lines
pub mod Leavings
pub mod RidersInside
pub mod LeavingsInside
pub mod Examples
