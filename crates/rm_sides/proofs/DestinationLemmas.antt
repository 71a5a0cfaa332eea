-- The lemmas of `destination`.
pub mod ForgetLemmas
pub mod InboxLemmas
pub mod KeptLemmas
pub mod LawLemmas
