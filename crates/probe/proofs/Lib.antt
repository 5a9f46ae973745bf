pub mod NumberFacts
pub mod SetFacts
pub mod ListFacts
