pub mod Agents
pub mod OnLiterals
pub mod Examples
