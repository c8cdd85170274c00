pub mod OneMore
pub mod OnLinks
pub mod ByJourney
pub mod AtTheEnd
