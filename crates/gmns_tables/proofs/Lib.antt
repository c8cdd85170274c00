pub mod WindowsFacts
pub mod StepsFacts
pub mod ChainFacts
pub mod TableFacts
pub mod BetweenFacts
pub mod TurningFacts
pub mod NetFacts
