pub mod Sending
pub mod Outs
pub mod Examples
