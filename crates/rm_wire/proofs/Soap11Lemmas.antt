-- The lemmas of `soap11`.
pub mod Free
pub mod Lifted
pub mod Lowered
pub mod NodeFaults
pub mod Numbers
pub mod Scoped
pub mod Tags
