-- How a loading is opened.
pub mod Starts
pub mod Opened
