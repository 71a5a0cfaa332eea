pub mod ElementsLemmas
pub mod Spans
