pub mod AssignmentFacts
pub mod SoundFacts
pub mod Determined
