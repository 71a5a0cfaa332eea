-- The definitions of `answers`.
pub mod Answers
pub mod Serving
