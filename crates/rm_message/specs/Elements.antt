-- The definitions of `elements`.
pub mod Capped
pub mod Deadline
pub mod Duration
pub mod Headers
pub mod Letters
pub mod Lifecycle
pub mod Outcome
pub mod Steps
pub mod Texts
pub mod Writable
