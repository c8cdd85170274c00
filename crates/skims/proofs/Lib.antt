pub mod ZipFacts
pub mod GrowthFacts
pub mod ZoneFacts
pub mod EntryFacts
pub mod Determined
pub mod TimesFacts
pub mod Sent
