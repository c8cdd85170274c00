pub mod DemandFacts
