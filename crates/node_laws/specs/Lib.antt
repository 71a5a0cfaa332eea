pub mod Keeps
pub mod OwnTerms
pub mod Read
pub mod Records
pub mod Snapshots
pub mod Answers
pub mod Sizes
