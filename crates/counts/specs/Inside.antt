-- What the functions of this crate promise each other.
pub mod Counting
pub mod Turns
pub mod Pairs
