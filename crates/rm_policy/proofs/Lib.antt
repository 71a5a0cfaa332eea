pub mod Back
pub mod Items
pub mod Readings
pub mod AlternativesLemmas
