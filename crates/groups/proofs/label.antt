pub mod LabelFacts
pub mod LabelBack
pub mod LabelGood
pub mod LabelPuts
