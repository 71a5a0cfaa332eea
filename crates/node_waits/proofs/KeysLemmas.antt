-- The lemmas of `keys`.
pub mod AckedLemmas
pub mod MoveLemmas
pub mod SettleLemmas
pub mod FillLemmas
pub mod GoneLemmas
pub mod AfterLemmas
pub mod RoomLemmas
