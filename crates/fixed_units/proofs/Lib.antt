pub mod Firsts
pub mod Leads
pub mod Numbers
pub mod Parts
pub mod Scales
pub mod Spellings
pub mod Splits
