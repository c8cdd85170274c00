pub mod TableFacts
pub mod ChainFacts
pub mod JobFacts
pub mod VerdictFacts
