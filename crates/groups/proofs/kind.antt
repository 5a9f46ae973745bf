pub mod KindFacts
pub mod KindLaws
