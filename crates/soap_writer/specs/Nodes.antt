-- The definitions of `nodes`.
pub mod Good
pub mod Node
