pub mod KnownBytes
pub mod WireLemmas
