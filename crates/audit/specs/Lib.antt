pub mod Checks
pub mod Audit
pub mod Inside
pub mod Examples
