pub mod RouteTimes
pub mod Gap
pub mod Told
pub mod Timed
pub mod Shares
pub mod Laws
pub mod Examples
