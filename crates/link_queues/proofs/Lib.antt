pub mod LastFacts
pub mod PathFacts
pub mod RingFacts
