-- What labels tell: least times and chosen walks.
pub mod Fewest
pub mod FirstLinks
pub mod Follows
pub mod GroupsTo
pub mod LabelsTo
pub mod OfZone
pub mod Paths
pub mod Searches
pub mod SearchesTo
pub mod Serves
