pub mod Averaged
pub mod FreeTimes
pub mod Determined
pub mod Started
pub mod Numbered
