pub mod ClapRules
pub mod ClapWalk
pub mod ClapReads
pub mod AskedFacts
pub mod ReadFacts
