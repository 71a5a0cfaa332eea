pub mod DrawnLemmas
pub mod GivenLemmas
