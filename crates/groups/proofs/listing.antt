pub mod LongerFacts
pub mod ListingFacts
