-- The lemmas of `source`.
pub mod AckedLemmas
