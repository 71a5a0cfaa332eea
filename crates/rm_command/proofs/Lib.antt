pub mod AlternativesLemmas
pub mod CheckLemmas
pub mod KeptLemmas
pub mod PolicyLemmas
pub mod ReadingLemmas
pub mod SoakLemmas
pub mod StatusLemmas
pub mod WordLemmas
