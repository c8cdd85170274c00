pub mod Starts
pub mod StartTable
pub mod Names
pub mod Examples
