pub mod GridFacts
pub mod WrittenFacts
pub mod LinesFacts
pub mod PlacesFacts
pub mod NodesAccepted
pub mod LinksAccepted
pub mod DemandAccepted
