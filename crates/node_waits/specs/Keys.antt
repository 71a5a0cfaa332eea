-- The definitions of `keys`.
pub mod Settled
pub mod Filled
