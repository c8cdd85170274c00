-- States and ways on.
pub mod ByZoneFacts
pub mod LongestFacts
pub mod OnwardFacts
pub mod RouterFacts
pub mod SpanFacts
pub mod StateFacts
pub mod ZoneFacts
