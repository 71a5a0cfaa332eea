pub mod Ranges
pub mod Source
pub mod Destination
