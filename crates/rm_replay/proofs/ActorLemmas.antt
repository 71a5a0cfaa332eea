-- The lemmas of `actor`.
pub mod ActLemmas
pub mod CrashLemmas
pub mod KeptLemmas
pub mod QuietLemmas
pub mod RewriteLemmas
pub mod StepLemmas
