pub mod Counting
pub mod Turns
pub mod Through
pub mod Text
pub mod Orders
pub mod Inside
pub mod Examples
