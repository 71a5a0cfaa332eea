pub mod RangesLemmas
pub mod SourceLemmas
pub mod DestinationLemmas
