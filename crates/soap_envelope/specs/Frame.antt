-- The definitions of `frame`.
pub mod BodyTag
pub mod Tagged
pub mod Covers
pub mod Framed
