-- The lemmas of `summary`.
pub mod ItemLemmas
pub mod SequenceLemmas
