-- The definitions of `keys`.
pub mod Waits
pub mod Keyed
pub mod KeyLemmas
