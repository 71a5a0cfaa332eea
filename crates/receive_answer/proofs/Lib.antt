pub mod FitLemmas
pub mod ReceiveLemmas
pub mod RecordLemmas
pub mod StrippedLemmas
pub mod RecordsLemmas
