-- The lemmas of `snapshots`.
pub mod KeptLemmas
