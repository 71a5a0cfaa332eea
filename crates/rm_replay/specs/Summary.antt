-- The definitions of `summary`.
pub mod Summary
