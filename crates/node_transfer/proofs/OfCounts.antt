-- How many vehicles cells have.
pub mod Capped
pub mod AddUp
