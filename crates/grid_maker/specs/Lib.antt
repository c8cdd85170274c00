pub mod Places
pub mod Links
pub mod Grid
pub mod GridsAreAccepted
pub mod Examples
