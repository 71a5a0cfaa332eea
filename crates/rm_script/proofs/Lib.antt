pub mod LineLemmas
pub mod ReadingLemmas
pub mod ScriptLemmas
pub mod WithinLemmas
pub mod SoakLemmas
