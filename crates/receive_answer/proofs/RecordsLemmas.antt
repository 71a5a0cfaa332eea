-- The lemmas of `records`.
pub mod AckLemmas
pub mod OfferLemmas
