pub mod Wakes
pub mod Steps
pub mod Ends
