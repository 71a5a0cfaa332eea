-- The lemmas of `alternatives`.
pub mod OrderLemmas
pub mod SetLemmas
pub mod AdmitsLemmas
pub mod MaskLemmas
pub mod NamedLemmas
pub mod BitLemmas
pub mod StepLemmas
pub mod LawLemmas
pub mod RisingLemmas
pub mod GatherLemmas
pub mod ListLemmas
pub mod CommonLemmas
pub mod TextLemmas
pub mod ReadLemmas
pub mod FindLemmas
pub mod PieceLemmas
pub mod SendLemmas
