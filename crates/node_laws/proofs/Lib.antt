mod Calendar
mod Calls
mod Content
mod Counts
mod Deadlines
mod EachCall
mod Kept
mod Lists
mod Messages
mod Near
mod Owned
mod Polls
mod Room
mod Rows
mod Said
mod Unacked
mod Values
pub mod SnapshotsLemmas
pub mod SizesLemmas
