pub mod Assignment
pub mod Traffic
pub mod Iterations
pub mod Lent
pub mod Progress
