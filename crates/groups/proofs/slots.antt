pub mod SlotFacts
pub mod Filling
pub mod HeldItems
