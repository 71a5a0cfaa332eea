-- The definitions of `actor`.
pub mod Actored
pub mod AnswerLemmas
pub mod Comes
pub mod LeftLemmas
pub mod Outcomes
pub mod Rewrites
pub mod Stands
pub mod Steps
