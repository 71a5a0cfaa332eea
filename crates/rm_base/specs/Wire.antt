-- The definitions of `wire`.
pub mod MemWire
pub mod Wire
