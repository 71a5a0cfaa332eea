-- The lemmas of `keys`.
pub mod CellLemmas
pub mod EntryLemmas
pub mod KeptLemmas
