-- The definitions of `snapshots`.
pub mod Kept
