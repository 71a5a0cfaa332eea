pub mod Framing
pub mod Framing11
pub mod GoodNodes
pub mod GoodNodes11
pub mod PlainTexts
pub mod TextLemmas
pub mod TreeLemmas
