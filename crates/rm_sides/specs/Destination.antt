-- The definitions of `destination`.
pub mod FrontLemmas
pub mod Incoming
pub mod ItemLemmas
pub mod Kept
pub mod Laws
pub mod LooseLemmas
pub mod MessageLemmas
pub mod Messages
