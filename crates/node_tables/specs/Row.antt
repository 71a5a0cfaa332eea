-- The definitions of `row`.
pub mod Row
pub mod StepLemmas
pub mod TakesLemmas
