-- The lemmas of `elements`.
pub mod Digits
pub mod HeaderBack
pub mod HeaderGood
pub mod LapseBack
pub mod Later
pub mod LifecycleBack
pub mod LifecycleGood
pub mod NodeLemmas
pub mod PlainTexts
