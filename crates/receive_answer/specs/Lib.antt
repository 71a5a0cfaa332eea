pub mod Tried
pub mod Untold
pub mod Records
