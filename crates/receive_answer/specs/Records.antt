-- The definitions of `records`.
pub mod Stripped
pub mod WithRow
