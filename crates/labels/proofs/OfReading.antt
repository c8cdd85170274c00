-- Least times and chosen walks.
pub mod Bridges
pub mod Chosens
pub mod FewestBack
pub mod FewestFound
pub mod FewestGrown
pub mod FewestOrder
pub mod FewestPaths
pub mod FewestSearch
pub mod FewestTight
pub mod GroupFacts
pub mod Joined
pub mod LabelFacts
pub mod Leasts
pub mod Picks
pub mod ServeFacts
pub mod Walks
