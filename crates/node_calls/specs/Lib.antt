pub mod Causes
pub mod Comes
pub mod Records
