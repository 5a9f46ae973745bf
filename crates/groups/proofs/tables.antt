pub mod Below
pub mod TableLaws
pub mod RecordFacts
pub mod TableLoops
pub mod HalvingLaws
pub mod FindLoops
pub mod RisingLaws
