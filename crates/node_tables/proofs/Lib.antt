mod AheadLemmas
mod ApplyLemmas
mod CompactLemmas
mod CopyLemmas
mod CountLemmas
mod ForgetLemmas
mod HeldLemmas
mod InsteadLemmas
mod MakerLemmas
mod MessageLemmas
mod PastLemmas
mod RoomLemmas
mod RowsLemmas
mod ShorterLemmas
mod StepLemmas
mod TellLemmas
mod WaitLemmas
pub mod RowLemmas
