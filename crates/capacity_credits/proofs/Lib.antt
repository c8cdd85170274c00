pub mod Skips
pub mod Courses
