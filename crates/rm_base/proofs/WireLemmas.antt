-- The lemmas of `wire`.
pub mod MemLemmas
