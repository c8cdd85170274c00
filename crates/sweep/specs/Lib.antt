pub mod Texts
pub mod Scenarios
pub mod Rounds
pub mod Laws
pub mod Examples
