-- The lemmas of `soak`.
pub mod CutLemmas
pub mod SoakLemmas
pub mod SummaryLemmas
