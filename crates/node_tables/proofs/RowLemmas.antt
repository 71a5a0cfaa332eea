-- The lemmas of `row`.
pub mod GoneLemmas
pub mod UpToLemmas
