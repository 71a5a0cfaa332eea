-- The lemmas of `link`.
pub mod PacketLemmas
