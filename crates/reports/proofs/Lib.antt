pub mod TextsFacts
pub mod Sent
