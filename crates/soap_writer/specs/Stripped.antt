-- The definitions of `stripped`.
pub mod CharLaws
pub mod Resolved
pub mod ResolvedLaws
