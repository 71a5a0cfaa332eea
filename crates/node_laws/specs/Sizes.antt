-- The definitions of `sizes`.
pub mod Room
pub mod Size
pub mod Typed
