-- The definitions of `slots`.
pub mod Waits
pub mod Laws
pub mod Table
