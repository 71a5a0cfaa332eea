pub mod Prefixes
pub mod Raws
pub mod Expands
pub mod Apart
pub mod Back
pub mod NodesLemmas
pub mod StrippedLemmas
pub mod ValuesLemmas
