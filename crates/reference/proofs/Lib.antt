mod Among
mod Bests
mod Erased
mod Runs
mod Straight
pub mod Searched
pub mod LoadedTimes
pub mod IsWalks
pub mod StartFacts
pub mod GapFacts
pub mod Iterated
pub mod AssignedFacts
pub mod SkimFacts
pub mod SweepFacts
pub mod AuditFacts
pub mod TextsFacts
pub mod FieldsInRange
pub mod NetTables
pub mod OtherTables
pub mod AcceptedFacts
