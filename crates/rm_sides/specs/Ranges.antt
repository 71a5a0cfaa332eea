-- The definitions of `ranges`.
pub mod Changes
pub mod Laws
pub mod Places
pub mod Ranges
