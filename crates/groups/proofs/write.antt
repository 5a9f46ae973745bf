pub mod Totals
pub mod SizeFacts
pub mod UniversalFacts
pub mod LocalFacts
pub mod OtherFacts
pub mod WriteKinds
pub mod WriteFacts
pub mod OutputFacts
