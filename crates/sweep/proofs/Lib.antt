pub mod ScenarioFacts
pub mod RoundFacts
pub mod TextFacts
pub mod Determined
pub mod Sent
