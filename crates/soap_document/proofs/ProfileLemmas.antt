-- The lemmas of `profile`.
pub mod Bare
pub mod Distinct
pub mod Items
pub mod Listing
pub mod Nests
pub mod Payloads
pub mod Resolvers
pub mod Roots
pub mod Scopes
pub mod Tags
