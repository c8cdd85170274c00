pub mod Uses
pub mod Asked
pub mod Reading
pub mod Examples
