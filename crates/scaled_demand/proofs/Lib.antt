pub mod LimitFacts
