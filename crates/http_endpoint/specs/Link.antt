-- The definitions of `link`.
pub mod Lines
pub mod Mem
pub mod Notes
pub mod Posts
