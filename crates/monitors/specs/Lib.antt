pub mod Posted
pub mod Words
pub mod Rule
pub mod Examples
