pub mod PartFacts
pub mod WithinLaws
pub mod ElementLaws
pub mod ElementFacts
pub mod SpanBack
pub mod SpanLaws
