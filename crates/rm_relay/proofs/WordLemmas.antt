-- The lemmas of `word`.
pub mod ForwardLemmas
pub mod HopLemmas
pub mod KnownLemmas
pub mod OrderLemmas
pub mod PromiseLemmas
pub mod ReleasedLemmas
pub mod RoleLemmas
pub mod SoundLemmas
pub mod StepLemmas
pub mod StrangeLemmas
pub mod TrimLemmas
pub mod WorldLemmas
