-- The definitions of `soap11`.
pub mod Lift
pub mod Lower
pub mod Spells11
