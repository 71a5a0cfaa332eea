pub mod Acceptance
pub mod Asks
pub mod Reads
pub mod Runs
pub mod Texts
pub mod Works
