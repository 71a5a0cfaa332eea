-- The lemmas of `ranges`.
pub mod ChangesLemmas
pub mod CountLemmas
pub mod RangesLemmas
pub mod MissingLemmas
pub mod MergeLemmas
