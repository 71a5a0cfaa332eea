pub mod Batch
pub mod Fact
pub mod Format
pub mod Parts
pub mod Refused
pub mod Writable
pub mod Sequences
pub mod Snapshot
