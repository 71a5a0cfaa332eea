-- The lemmas of `pending`.
pub mod EachLemmas
pub mod LimitLemmas
pub mod NameLemmas
pub mod TableLemmas
