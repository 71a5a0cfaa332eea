-- The definitions of `report`.
pub mod Exits
pub mod Report
