-- The lemmas of `sequences`.
pub mod DrawLemmas
pub mod IdentLemmas
