-- An answer with the message that it fetches.
use Rattle.std.specs.Prelude.{Option, None}
use Rattle.record_batch.specs.Sequences.Words.{Text}
use Rattle.rm_protocol.specs.Calls.{Answer, Done, Outcome}
use Rattle.node_laws.specs.Answers.Answers.{seen}
use Rattle.node_waits.specs.Fetched.{fetched_seen}
use Rattle.rm_node.specs.declared.fetch.Answered.{Answered}

-- the answer as the protocol's
abbrev pub whole : Answered → Answer
whole a = record (seen a.answer) { fetched = fetched_seen a.fetched }

-- an address is asked for where the message that does was taken
abbrev pub if_taken : Outcome → Option Text → Option Text
if_taken Done at = at
if_taken _ at = None
