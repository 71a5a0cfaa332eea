pub mod LinksLemmas
pub mod SlotsLemmas
pub mod KeysLemmas
pub mod PendingLemmas
