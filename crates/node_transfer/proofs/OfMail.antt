-- Mail in the places of cells, and in the list of all links.
pub mod Numbers
pub mod ListPlaces
pub mod Sets
pub mod Parts
pub mod MailPlaces
pub mod Puts
pub mod Exchanges
pub mod Lending
pub mod Halves
pub mod Finished
pub mod Gathers
pub mod Rooms
