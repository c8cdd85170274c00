pub mod CaseInside
pub mod Checked
pub mod CheckedNet
pub mod Networks
pub mod OnLiterals
pub mod Seen
pub mod Worked
pub mod Written
