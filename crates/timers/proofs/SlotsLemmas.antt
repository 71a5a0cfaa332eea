-- The lemmas of `slots`.
pub mod TableLemmas
pub mod PlainLemmas
pub mod TimedLemmas
pub mod SeenLemmas
pub mod StandLemmas
pub mod DueLemmas
pub mod CallLemmas
