pub mod RootLaws
pub mod RootFacts
pub mod TagBack
