pub mod SumsFacts
pub mod OrderFacts
pub mod MadeFacts
pub mod NumbersFacts
pub mod WholeFacts
