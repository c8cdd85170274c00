-- What is left to zones, from each state at each step.
pub mod Falling
pub mod Firsts
pub mod FreeFlow
pub mod Labels
pub mod Rests
pub mod Rows
pub mod SlotForms
pub mod Slots
pub mod Tables
pub mod Tails
pub mod Timed
pub mod WaysBack
