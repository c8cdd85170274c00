pub mod Selection
pub mod Starting
pub mod Averages
pub mod Asked
pub mod Laws
pub mod Examples
