-- One message in one round: what a tick says of it, what answers that, and what the answer ends.
use Rattle.std.specs.Prelude.{◌≡◌, ◌⊎◌, ℕ, suc, ◌+◌, ◌≤◌, true, false, List, [], ◌∷◌, ◌++◌, length, Some, None}
use Rattle.std.specs.List.{AllByRecursion}
use Rattle.rm_sides.specs.Ranges.Ranges.{in_ranges}
use Rattle.rm_base.specs.Limits as limits
use Rattle.rm_base.specs.NumberSet.{has_number}
use Rattle.rm_base.specs.declared.message.Behaviour.{Behaviour}
use Rattle.rm_message.specs.declared.elements.header.AckBlock.{AckBlock}
use Rattle.rm_message.specs.declared.message.Message.{Message}
use Rattle.wsa_headers.specs.declared.endpoint.Epr.{Epr}
use Rattle.record_batch.specs.Fact.{Fact}
use Rattle.record_batch.specs.Sequences.Words.{Text}
use Rattle.record_batch.specs.Sequences.Sources.{acked, out_ident}
use Rattle.record_batch.specs.Sequences.Destinations.{front, held, is_ended, is_over}
use Rattle.record_batch.specs.Sequences.Find.{acks_to, find_incoming, find_outgoing}
use Rattle.record_batch.specs.Sequences.Fits.{all_fit}
use Rattle.timers.specs.declared.slots.timers.Key.{Key}
use Rattle.timers.specs.Keys.Waits.{Wait, due_at, first_due, has_key, most_emitted}
use Rattle.rm_protocol.specs.Calls.{messages_at}
use Rattle.rm_protocol.specs.Messages.{ack_message, data_at, data_of}
use Rattle.rm_protocol.specs.Rows.{ack_row, ranges_of, rows}
use Rattle.rm_protocol.specs.Said.{said}
use Rattle.rm_protocol.specs.Terms.{Terms}
use Rattle.rm_protocol.specs.Verdict.{has_room, is_invalid, verdict}
use Rattle.rm_protocol.specs.Waiting.{Moves, is_waiting, key, mounted_waits, waits_after}

-- a message whose number is acknowledged waits no more, whatever records come behind
abbrev pub WaitEndsForGood : Type 0
WaitEndsForGood =
    (r : List Fact) (s i : ℕ) → in_ranges (acked r s) (suc i) ≡ true
    → (d : List Fact) → is_waiting (r ++ d) (key s (suc i)) ≡ false

-- an acknowledgement that names the number ends the wait
abbrev pub AckEndsTheWait : Type 0
AckEndsTheWait =
    (r : List Fact) (block : AckBlock) (s i : ℕ) → find_outgoing r block.ident ≡ Some s
    → in_ranges (ranges_of block.kind) (suc i) ≡ true
    → (d : List Fact) → is_waiting ((r ++ ack_row block r) ++ d) (key s (suc i)) ≡ false

-- a destination takes number i of its sequence t, or has it: it is within the window, and the sequence is open
abbrev pub CanTake : List Fact → ℕ → ℕ → ℕ → Type 0
CanTake r t i now =
    (has_number (held r t) i ≡ true) ⊎ ((is_over r t now ≡ false) × (i ≤ front r t + limits.window))

-- what comes of data at its destination: the number is held, and one acknowledgement is said to AcksTo, which names it
pub record IsAcked (terms : Terms) (r : List Fact) (t i now : ℕ) (y : Behaviour) (q : Text) (back : Epr) (m : Message)
    : Type 0 where
  pub block : AckBlock
  pub has : has_number (held (r ++ rows terms now y m r) t) i ≡ true
  pub says : said (r ++ rows terms now y m r) now m ≡ ack_message back (block ∷ []) ∷ []
  pub ident : block.ident ≡ q
  pub names : in_ranges (ranges_of block.kind) i ≡ true

-- so it is of data for a sequence whose acknowledgements have where to go
abbrev pub HeldIsAcked : Type 0
HeldIsAcked =
    (terms : Terms) (r : List Fact) (t i now : ℕ) (y : Behaviour) (q : Text) (to back : Epr) (p : Text)
    → find_incoming r q ≡ Some t → acks_to r t ≡ Some back → CanTake r t i now
    → IsAcked terms r t i now y q back (data_of to q i p)

-- the message of a key that was delivered, and its answer, which was delivered at the records that the source had then
pub record Arrives (terms : Terms) (b : List Fact) (s t i now : ℕ) (y : Behaviour) (q : Text) (m : Message)
    : Type 0 where
  pub answer : Message
  pub has : has_number (held (b ++ rows terms now y m b) t) (suc i) ≡ true
  pub says : said (b ++ rows terms now y m b) now m ≡ answer ∷ []
  pub ends : (c : List Fact) (later : ℕ) (z : Behaviour) → find_outgoing c q ≡ Some s
      → (d : List Fact) → is_waiting ((c ++ rows terms later z answer c) ++ d) (key s (suc i)) ≡ false

-- one message, one round: what a tick says for a key of source a, delivered at b, is held there, and what b answers,
-- delivered at the source whatever else it has by then, ends the wait for good
abbrev pub ArrivesInARound : Type 0
ArrivesInARound =
    (terms : Terms) (a b : List Fact) (s t i now : ℕ) (y : Behaviour) (q : Text) (back : Epr) (m : Message)
    → out_ident a s ≡ Some q → data_at a s (suc i) ≡ Some m
    → find_incoming b q ≡ Some t → acks_to b t ≡ Some back → CanTake b t (suc i) now
    → Arrives terms b s t i now y q m

-- message i of source s is there to be sent, on a sequence with an identifier
pub record HasData (r : List Fact) (s i : ℕ) : Type 0 where
  pub ident : Text
  pub to : Epr
  pub text : Text
  pub known : out_ident r s ≡ Some ident
  pub data_ : data_at r s i ≡ Some (data_of to ident i text)

-- a message that waits is there to be sent
abbrev pub WaitingHasData : Type 0
WaitingHasData =
    (r : List Fact) (s i : ℕ) → all_fit [] r ≡ true → is_waiting r (key s (suc i)) ≡ true → HasData r s (suc i)

-- a message is said, of those that are said for these keys
pub record IsSaidFor (r : List Fact) (keys : List Key) (m : Message) : Type 0 where
  pub before : List Message
  pub behind : List Message
  pub are : messages_at r keys ≡ before ++ m ∷ behind

-- where the key of a message is among those that a tick emits, and it waits, its data is said
abbrev pub DueIsSaid : Type 0
DueIsSaid =
    (r : List Fact) (s i : ℕ) (keys : List Key) → all_fit [] r ≡ true → is_waiting r (key s (suc i)) ≡ true
    → has_key keys (key s (suc i)) ≡ true
    → (it : HasData r s (suc i)) × IsSaidFor r keys (data_of it.to it.ident (suc i) it.text)

-- data that a destination can take gets no fault, where its sequence is not ended and the store has room
abbrev pub DataIsTaken : Type 0
DataIsTaken =
    (terms : Terms) (r : List Fact) (end t i now : ℕ) (y : Behaviour) (q : Text) (to : Epr) (p : Text)
    → find_incoming r q ≡ Some t → is_ended r t now ≡ false → CanTake r t i now
    → has_room terms end (rows terms now y (data_of to q i p) r) ≡ true
    → verdict terms r end now y (data_of to q i p) ≡ None

-- nor does an acknowledgement of a sequence of ours, none of whose numbers is too great
abbrev pub AckIsTaken : Type 0
AckIsTaken =
    (terms : Terms) (r : List Fact) (end s now : ℕ) (y : Behaviour) (to : Epr) (block : AckBlock)
    → find_outgoing r block.ident ≡ Some s → is_invalid r block ≡ false
    → has_room terms end (rows terms now y (ack_message to (block ∷ [])) r) ≡ true
    → verdict terms r end now y (ack_message to (block ∷ [])) ≡ None

-- where at most 64 keys are due, each of them is emitted
abbrev pub FewAreAllEmitted : Type 0
FewAreAllEmitted =
    (now : ℕ) (before : List Wait) (w : Wait) (behind : List Wait)
    → length (due_at now (before ++ w ∷ behind)) ≤ most_emitted → w.class ≤ 6 → w.due ≤ now
    → has_key (first_due now (before ++ w ∷ behind)) w.key ≡ true

-- a key is in one of the classes 0 to 6, and is due within 64 seconds of a node's time
pub record IsTimely (time : ℕ) (w : Wait) : Type 0 where
  pub class_ : w.class ≤ 6
  pub soon : w.due ≤ time + 64000

-- so it is of what waits at a node that was mounted, and after each call: a tick 64 seconds later finds all of it due
pub record WaitsAreTimely : Type 0 where
  pub mounted : (r : List Fact) (time : ℕ) → AllByRecursion (IsTimely time) (mounted_waits r)
  pub after : (r delta : List Fact) (moves : Moves) (old time : ℕ) (waits : List Wait) → old ≤ time
      → AllByRecursion (IsTimely old) waits → AllByRecursion (IsTimely time) (waits_after r delta moves time waits)
