pub mod BatchLaws
pub mod FormatLaws
pub mod Items
pub mod LoopOfRecords
pub mod Loops
pub mod PartLaws
pub mod RangeLemmas
pub mod SequencesLemmas
