-- The lemmas of `nodes`.
pub mod NodeBack
