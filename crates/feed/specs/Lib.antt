pub mod Triplets
pub mod Feed
pub mod FeedText
pub mod Walk
