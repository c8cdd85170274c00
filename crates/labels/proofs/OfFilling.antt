-- Tables of what is left.
pub mod ElementFacts
pub mod FallingFacts
pub mod FreeFlowFacts
pub mod LeastOver
pub mod NarrowFacts
pub mod PlaceFacts
pub mod RowFacts
pub mod SlotFacts
pub mod TableFacts
pub mod TailFacts
pub mod WaysBackFacts
