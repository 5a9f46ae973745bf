pub mod ReadGood
pub mod ReadLoop
pub mod BodyFacts
pub mod ReadLaws
pub mod ReadRefusals
pub mod FewItems
