pub mod GatheredLemmas
pub mod FoundLemmas
pub mod PhaseLemmas
pub mod FrontLemmas
pub mod SideLemmas
pub mod LoopLemmas
pub mod SoughtLemmas
