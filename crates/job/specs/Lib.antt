pub mod Text
pub mod Job
pub mod Held
pub mod Example
