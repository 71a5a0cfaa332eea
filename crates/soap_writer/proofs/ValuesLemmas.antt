-- The lemmas of `values`.
pub mod BoundLemmas
pub mod NumberLemmas
