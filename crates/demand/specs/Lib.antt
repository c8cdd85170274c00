pub mod DemandRows
pub mod OnLiterals
pub mod Examples
