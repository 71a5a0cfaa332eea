-- Requests that wait, and what their responses end: WS-ReliableMessaging 1.2, sections 3.4 to 3.6.
use Rattle.std.specs.Prelude.{◌≡◌, ℕ, true, false, List, [], ◌++◌, Some, None}
use Rattle.rm_message.specs.declared.elements.lifecycle.CreateResponse.{CreateResponse}
use Rattle.rm_message.specs.declared.message.Message.{Message}
use Rattle.rm_sides.specs.declared.source.phase.OutPhase.TheVariants as out
use Rattle.timers.specs.declared.slots.timers.Key.{Key}
use Rattle.timers.specs.Keys.Waits.{has_key}
use Rattle.record_batch.specs.Fact.{Fact}
use Rattle.record_batch.specs.Sequences.Words.{Text}
use Rattle.record_batch.specs.Sequences.Sources.{phase}
use Rattle.record_batch.specs.Sequences.Find.{find_creating, find_outgoing}
use Rattle.record_batch.specs.Sequences.Fits.{all_fit}
use Rattle.rm_protocol.specs.Messages.{request_at}
use Rattle.rm_protocol.specs.Rows.{closed_at, ended_at, response_row}
use Rattle.rm_protocol.specs.Waiting.{is_waiting, key}
use Rattle.rm_arrival.specs.Round.{IsSaidFor}

-- the request of sequence s is there to be said
pub record HasRequest (r : List Fact) (s : ℕ) : Type 0 where
  pub request : Message
  pub is : request_at r s ≡ Some request

-- a request that waits is there to be said: CreateSequence, CloseSequence or TerminateSequence
abbrev pub WaitingHasRequest : Type 0
WaitingHasRequest =
    (r : List Fact) (s : ℕ) → all_fit [] r ≡ true → is_waiting r (key s 0) ≡ true → HasRequest r s

-- of the keys that a tick emits, each of a request that waits is said as that request
abbrev pub RequestIsSaid : Type 0
RequestIsSaid =
    (r : List Fact) (s : ℕ) (keys : List Key) → all_fit [] r ≡ true → is_waiting r (key s 0) ≡ true
    → has_key keys (key s 0) ≡ true → (it : HasRequest r s) × IsSaidFor r keys it.request

-- the row of the response to each ends the wait: of a CreateSequenceResponse whose identifier is new, of a
-- CloseSequenceResponse, and of a TerminateSequenceResponse
pub record ResponsesEnd : Type 0 where
  pub created : (r : List Fact) (t : Text) (c : CreateResponse) (s : ℕ) → find_creating r t ≡ Some s
      → find_outgoing r c.ident ≡ None → is_waiting (r ++ response_row (Some t) c r) (key s 0) ≡ false
  pub closed : (r : List Fact) (q : Text) (s : ℕ) → find_outgoing r q ≡ Some s → phase r s ≡ out.Closing
      → is_waiting (r ++ closed_at (find_outgoing r q) r) (key s 0) ≡ false
  pub ended : (r : List Fact) (q : Text) (s : ℕ) → find_outgoing r q ≡ Some s → phase r s ≡ out.Ending
      → is_waiting (r ++ ended_at (find_outgoing r q) r) (key s 0) ≡ false
