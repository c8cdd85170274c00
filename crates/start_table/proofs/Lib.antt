pub mod Named
pub mod Walked
pub mod Pieces
