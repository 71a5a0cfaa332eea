-- The definitions of `word`.
pub mod Ends
pub mod Roles
pub mod Word
pub mod World
pub mod FirstLemmas
