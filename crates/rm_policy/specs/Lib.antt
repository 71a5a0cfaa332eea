pub mod Assertion
pub mod Content
pub mod Reading
pub mod Refusal
pub mod Texts
pub mod Words
pub mod Alternatives
