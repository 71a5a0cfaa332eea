-- The definitions of `read_laws`.
pub mod Stands
pub mod WasRead
