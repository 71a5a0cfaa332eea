mod AckLemmas
mod CauseLemmas
mod ComesLemmas
mod ConsumeLemmas
mod DrawnLemmas
mod RequestLemmas
mod StoredLemmas
mod TickLemmas
pub mod AskLemmas
pub mod EndLemmas
pub mod KeyLemmas
pub mod MissingLemmas
pub mod TicketLemmas
