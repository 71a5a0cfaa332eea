-- The verdict that a message has before its records are worked out, and the answers to a message, each as one word.
use Rattle.std.specs.Prelude.{ℕ, List, [], ◌∷◌, Option, None, Ok}
use Rattle.rm_base.specs.declared.message.Behaviour.{Behaviour}
use Rattle.rm_message.specs.declared.message.Message.{Message}
use Rattle.rm_message.specs.declared.refusal.FaultKind.{FaultKind}
use Rattle.rm_message.specs.declared.refusal.FaultKind.TheVariants.{StoreFull}
use Rattle.record_batch.specs.Fact.{Fact}
use Rattle.message_writer.specs.Faults.{fault_of}
use Rattle.rm_protocol.specs.Calls.{Answer, Judged, adds_and_moves, receive, refusal_of}
use Rattle.rm_protocol.specs.Said.{said}
use Rattle.rm_protocol.specs.Terms.{Terms}
use Rattle.rm_protocol.specs.Verdict.{early_tests, first_held}
use Rattle.rm_protocol.specs.Waiting.{Moves, nacked, no_moves}

-- the kind of the first test that holds, but for that of room
unfoldable pub early_kind : List Fact → ℕ → Message → Option FaultKind
early_kind r now m = first_held (early_tests r now m)

-- the answer to a message
unfoldable pub told : Terms → List Fact → ℕ → ℕ → Behaviour → Message → Answer
told terms r place now b m = receive terms r place now b (Ok m)

-- what a message that is taken does to the keys that wait: what it says is missing is wanted at once
abbrev pub urging : List Fact → Message → Moves
urging r m = record { urged = nacked r m.acks; emitted = []; time = 0 }

-- the answer that adds these records, and says what is said then
unfoldable pub done_of : List Fact → List Fact → ℕ → Message → Answer
done_of r d now m = adds_and_moves r d (urging r m) (λ after. said after now m)

-- the answer that says a fault of this kind
abbrev pub judged_as : FaultKind → Message → Answer
judged_as kind fault = record {
  outcome = Judged kind;
  delta = [];
  fetched = None;
  outs = fault ∷ [];
  moves = no_moves;
}

-- the answer to a message whose records don't fit the store
unfoldable pub full_of : Message → Answer
full_of m = judged_as StoreFull (fault_of (refusal_of m StoreFull) None)
