pub mod IndexLaws
pub mod IndexLoops
pub mod GuessLoops
