-- What a list of records says of outgoing sequences: WS-ReliableMessaging 1.2, sections 2.4, 3.5 and 3.6.
use Rattle.std.specs.Prelude.{ℕ, ◌+◌, ◌-◌, ◌==◌, Bool, true, false, if◌then◌else◌, List, [], ◌∷◌, length, Option}
use Rattle.std.specs.Prelude.{Some, None}
use Rattle.std.specs.List.{flat_map}
use Rattle.rm_sides.specs.declared.ranges.range.Range.{Range}
use Rattle.rm_sides.specs.Ranges.Changes.{united}
use Rattle.rm_sides.specs.Ranges.Ranges.{count_of}
use Rattle.rm_sides.specs.declared.source.phase.OutPhase.{OutPhase}
use Rattle.rm_sides.specs.declared.source.phase.OutPhase.TheVariants as out
use Rattle.rm_sides.specs.Source.Outgoing.{first_run}
use Rattle.rm_base.specs.Numbered.{numbered}
use Rattle.record_batch.specs.Fact.{Fact, Accepted, Acked, Closing, ClosedOut, Ending, EndedOut, Failed, Dropped}
use Rattle.record_batch.specs.Sequences.Words.{Text, at_seq, last_or}
use Rattle.record_batch.specs.Sequences.Makers.{Maker, Outgoing, Taken, created, ident_in, makers}

-- the payload that a record accepts for sequence s
abbrev pub accepted_of : ℕ → Fact → List Text
accepted_of s (Accepted seq payload) = if seq == s then payload ∷ [] else []
accepted_of s _ = []

-- how many of the first messages of sequence s a record says are gone
abbrev pub dropped_of : ℕ → Fact → List ℕ
dropped_of s (Dropped seq upto) = if seq == s then upto ∷ [] else []
dropped_of s _ = []

-- how many of the first messages are gone: 0 where no record tells it
abbrev pub dropped : List Fact → ℕ → ℕ
dropped r s = last_or 0 (flat_map (dropped_of s) r)

-- the payloads that were accepted and aren't gone, as the messages behind the gone ones
abbrev pub accepted : List Fact → ℕ → List Text
accepted r s = flat_map (accepted_of s) r

-- how many messages were accepted, with those that are gone
abbrev pub accepted_count : List Fact → ℕ → ℕ
accepted_count r s = dropped r s + length (accepted r s)

-- the payload of a message, where it was accepted and isn't gone
abbrev pub payload_at : List Fact → ℕ → ℕ → Option Text
payload_at r s i = numbered (accepted r s) (i - dropped r s)

-- the ranges that a record acknowledges of sequence s
abbrev pub acked_of : ℕ → Fact → List Range
acked_of s (Acked seq ranges) = if seq == s then ranges else []
acked_of s (Dropped seq upto) = if seq == s then first_run upto else []
acked_of s _ = []

-- the ranges that were acknowledged, record by record: a number is acknowledged where it lies in one of them
abbrev pub acked : List Fact → ℕ → List Range
acked r s = flat_map (acked_of s) r

-- how many of the accepted messages are not acknowledged
abbrev pub unacked : List Fact → ℕ → ℕ
unacked r s = accepted_count r s - count_of (united [] (acked r s))

-- the phase records that come after the one that made the sequence or gave it its identifier
abbrev pub mark_of : Fact → List (ℕ × OutPhase)
mark_of (Closing seq ticket) = (seq, out.Closing) ∷ []
mark_of (ClosedOut seq) = (seq, out.Closed) ∷ []
mark_of (Ending seq ticket) = (seq, out.Ending) ∷ []
mark_of (EndedOut seq) = (seq, out.Ended) ∷ []
mark_of (Failed seq fault) = (seq, out.Failed) ∷ []
mark_of _ = []

-- those of one sequence, in order
abbrev pub marks : List Fact → ℕ → List OutPhase
marks r s = at_seq s (flat_map mark_of r)

-- the identifier of an outgoing sequence
abbrev pub out_ident : List Fact → ℕ → Option Text
out_ident r s = ident_in (created r) s

-- the phase of a sequence without such records: it is open once it has an identifier
abbrev pub first_phase : Option Text → OutPhase
first_phase None = out.Creating
first_phase (Some q) = out.Open

-- the phase of an outgoing sequence: that of its last phase record
abbrev pub phase : List Fact → ℕ → OutPhase
phase r s = last_or (first_phase (out_ident r s)) (marks r s)

-- the ticket of a request that is waiting for its response: of the last Closing or Ending record
abbrev pub ticket_of : Fact → List (ℕ × ℕ)
ticket_of (Closing seq ticket) = (seq, ticket) ∷ []
ticket_of (Ending seq ticket) = (seq, ticket) ∷ []
ticket_of _ = []

-- those of one sequence, in order
abbrev pub tickets : List Fact → ℕ → List ℕ
tickets r s = at_seq s (flat_map ticket_of r)

-- messages are sent again in phase Open or Closing
abbrev pub is_sending : OutPhase → Bool
is_sending out.Open = true
is_sending out.Closing = true
is_sending _ = false

-- how many messages of sequence s, which was made so, wait for an acknowledgement
abbrev pub unacked_at : List Fact → ℕ → Maker → ℕ
unacked_at r s (Outgoing ticket to via lapse) = if is_sending (phase r s) then unacked r s else 0
unacked_at r s (Taken message_id ident endpoint) = if is_sending (phase r s) then unacked r s else 0
unacked_at r s _ = 0

-- of all sequences, counted from k + 1
abbrev pub unacked_from : List Fact → ℕ → List Maker → ℕ
unacked_from r k [] = 0
unacked_from r k (m ∷ ms) = unacked_at r (k + 1) m + unacked_from r (k + 1) ms

-- the messages of all outgoing sequences in phase Open or Closing that are not acknowledged
abbrev pub all_unacked : List Fact → ℕ
all_unacked r = unacked_from r 0 (makers r)
