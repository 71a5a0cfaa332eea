-- The lemmas of `stripped`.
pub mod Elements
pub mod Lines
pub mod Meanings
pub mod Names
pub mod Spaces
pub mod Tags
