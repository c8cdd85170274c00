-- What the functions of this crate promise each other.
pub mod Lengths
pub mod Pass
pub mod Outs
pub mod Cells
pub mod Counted
pub mod StartLines
pub mod StartCells
