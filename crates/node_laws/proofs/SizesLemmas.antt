-- The lemmas of `sizes`.
pub mod SizeLemmas
pub mod ShortLemmas
