pub mod BlockLemmas
pub mod Joined
pub mod MessageLemmas
pub mod Unique
