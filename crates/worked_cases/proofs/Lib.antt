pub mod NetChecked
pub mod SoundChecked
pub mod OfTables
pub mod Posts
