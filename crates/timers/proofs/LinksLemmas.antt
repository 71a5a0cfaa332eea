-- The lemmas of `links`.
pub mod PathLemmas
pub mod NodeLemmas
pub mod ListsLemmas
pub mod ShownLemmas
pub mod WalkLemmas
pub mod WholeLemmas
pub mod BuildLemmas
pub mod FirstDueLemmas
pub mod OldLemmas
