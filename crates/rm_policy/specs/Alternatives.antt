-- The definitions of `alternatives`.
pub mod Terms
pub mod Tree
pub mod Sets
pub mod Admits
pub mod Normal
pub mod Limits
pub mod Masks
pub mod Laws
pub mod Answers
pub mod Listed
pub mod Texts
pub mod Refusal
pub mod Reading
pub mod Pieces
pub mod Finds
pub mod Sending
