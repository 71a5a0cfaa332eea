-- The definitions of `soak`.
pub mod Soak
pub mod Summary
