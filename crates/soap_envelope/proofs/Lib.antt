pub mod Envelopes
pub mod Outlines
pub mod Placed
pub mod Scopes
pub mod Unique
pub mod Parted
pub mod FrameLemmas
