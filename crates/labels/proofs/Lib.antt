pub mod Basics
pub mod OfStates
pub mod OfFilling
pub mod OfReading
