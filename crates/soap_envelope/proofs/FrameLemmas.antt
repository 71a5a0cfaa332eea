-- The lemmas of `frame`.
pub mod Moved
pub mod Covered
pub mod Closed
pub mod BodyTag
pub mod Framing
pub mod Tagged
