-- The definitions of `source`.
pub mod Kept
pub mod Laws
pub mod Outgoing
