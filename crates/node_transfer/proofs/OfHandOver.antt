-- Journeys that are handed over.
pub mod Hands
pub mod HandOver
pub mod Handed
