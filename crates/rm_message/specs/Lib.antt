pub mod Actions
pub mod Kinds
pub mod Elements
pub mod Payloads
