mod HeadlineLemmas
mod PlayedLemmas
mod SentLemmas
mod PutLemmas
mod StepLemmas
mod EventLemmas
mod CallLemmas
mod StoryLemmas
mod UnarmedLemmas
mod AskLemmas
mod GrantLemmas
mod RunLemmas
mod AddressLemmas
mod CrashLemmas
mod CompactLemmas
pub mod ActorLemmas
pub mod SummaryLemmas
