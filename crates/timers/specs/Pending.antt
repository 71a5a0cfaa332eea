-- The definitions of `pending`.
pub mod Laws
pub mod Limits
pub mod Names
pub mod Seen
pub mod Table
pub mod Waiting
