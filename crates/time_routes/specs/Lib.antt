pub mod Destinations
pub mod Tell
pub mod Answers
pub mod Searches
pub mod Groups
