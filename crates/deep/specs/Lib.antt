pub mod Tree
pub mod Deep
pub mod DeepText
pub mod Walk
