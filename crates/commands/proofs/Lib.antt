pub mod OutputFacts
pub mod WorkFacts
pub mod Determined
pub mod AnyOrder
