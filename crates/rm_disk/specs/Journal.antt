-- The definitions of `journal`.
pub mod Entries
pub mod EntryLemmas
pub mod Journal
pub mod JournalState
pub mod Scan
