-- Why a message is not taken: the kinds of faults that depend on the node, in the order in which they are tested.
-- WS-ReliableMessaging 1.2, section 4, and WS-MakeConnection 1.1, section 4.
use Rattle.std.specs.Prelude.{ℕ, ◌+◌, ◌&&◌, ◌||◌, not, nat_le, nat_lt, Bool, true, false, if◌then◌else◌, List, []}
use Rattle.std.specs.Prelude.{◌∷◌, ◌++◌, length, Option, Some, None, is_none, is_some}
use Rattle.std.specs.List.{list_any}
use Rattle.rm_base.specs.Limits as limits
use Rattle.rm_sides.specs.declared.ranges.range.Range.{Range}
use Rattle.rm_base.specs.NumberSet.{has_number}
use Rattle.rm_base.specs.declared.message.Behaviour.{Behaviour}
use Rattle.rm_message.specs.declared.elements.header.AckBlock.{AckBlock}
use Rattle.rm_message.specs.declared.elements.header.SeqHeader.{SeqHeader}
use Rattle.rm_message.specs.declared.elements.lifecycle.Lifecycle.TheVariants as life
use Rattle.rm_message.specs.declared.message.Body.{Body}
use Rattle.rm_message.specs.declared.message.Body.TheVariants as body
use Rattle.rm_message.specs.declared.message.Message.{Message}
use Rattle.rm_message.specs.declared.refusal.FaultKind.{FaultKind}
use Rattle.rm_message.specs.declared.refusal.FaultKind.TheVariants.{WsrmRequired, UnknownSequence}
use Rattle.rm_message.specs.declared.refusal.FaultKind.TheVariants.{SequenceTerminated, SequenceClosed}
use Rattle.rm_message.specs.declared.refusal.FaultKind.TheVariants.{InvalidAcknowledgement, CreateSequenceRefused}
use Rattle.rm_message.specs.declared.refusal.FaultKind.TheVariants.{MissingSelection, UnsupportedSelection}
use Rattle.rm_message.specs.declared.refusal.FaultKind.TheVariants.{StoreFull}
use Rattle.record_batch.specs.Fact.{Fact}
use Rattle.record_batch.specs.Sequences.Words.{Text}
use Rattle.record_batch.specs.Sequences.Makers.{makers}
use Rattle.record_batch.specs.Sequences.Sources.{accepted_count}
use Rattle.record_batch.specs.Sequences.Destinations.{held, is_over, is_ended}
use Rattle.record_batch.specs.Sequences.Find.{find_incoming, find_outgoing, find_grant}
use Rattle.rm_protocol.specs.Addresses.{is_nowhere}
use Rattle.rm_protocol.specs.Rows.{ranges_of, rows}
use Rattle.rm_protocol.specs.Terms.{Terms}

-- a payload without a Sequence header
abbrev pub lacks_header : Option SeqHeader → Body → Bool
lacks_header None (body.Payload p) = true
lacks_header _ _ = false

-- the sequence that a message is for: of its Sequence header, or of its CloseSequence or TerminateSequence
abbrev pub target : Option SeqHeader → Body → Option Text
target (Some h) content = Some h.ident
target None (body.Lifecycle (life.Close f)) = Some f.ident
target None (body.Lifecycle (life.Terminate f)) = Some f.ident
target None _ = None

-- the message is for a sequence that is no incoming one of ours
abbrev pub is_unknown : List Fact → Option Text → Bool
is_unknown r None = false
is_unknown r (Some q) = is_none (find_incoming r q)

-- an acknowledgement names an outgoing sequence of ours
abbrev pub knows_block : List Fact → AckBlock → Bool
knows_block r block = is_some (find_outgoing r block.ident)

-- an AckRequested names an incoming sequence of ours
abbrev pub knows_ask : List Fact → Text → Bool
knows_ask r q = is_some (find_incoming r q)

-- there are acknowledgements or requests for one, none of them names a sequence of ours, and the body is empty
abbrev pub names_none : List Fact → List AckBlock → List Text → Body → Bool
names_none r [] [] content = false
names_none r blocks asks body.Empty = not (list_any (knows_block r) blocks || list_any (knows_ask r) asks)
names_none r blocks asks _ = false

-- the sequence that a message would go on with: of its Sequence header, or of its CloseSequence. A TerminateSequence
-- goes on with none, so that it is answered again for a sequence that is ended already
abbrev pub going_on : Option SeqHeader → Body → Option Text
going_on (Some h) content = Some h.ident
going_on None (body.Lifecycle (life.Close f)) = Some f.ident
going_on None _ = None

-- a sequence of ours is ended
abbrev pub is_ended_at : List Fact → ℕ → Option ℕ → Bool
is_ended_at r now None = false
is_ended_at r now (Some s) = is_ended r s now

-- the sequence with this identifier is one of ours, and ended
abbrev pub is_ended_for : List Fact → ℕ → Option Text → Bool
is_ended_for r now None = false
is_ended_for r now (Some q) = is_ended_at r now (find_incoming r q)

-- a number is not received yet, and the sequence is no longer open
abbrev pub is_shut_at : List Fact → ℕ → ℕ → Option ℕ → Bool
is_shut_at r now n None = false
is_shut_at r now n (Some s) = not (has_number (held r s) n) && is_over r s now

-- a number not yet received, for a closed sequence
abbrev pub is_shut_for : List Fact → ℕ → Option SeqHeader → Bool
is_shut_for r now None = false
is_shut_for r now (Some h) = is_shut_at r now h.number (find_incoming r h.ident)

-- one of the ranges ends above n
abbrev pub is_above : ℕ → List Range → Bool
is_above n ranges = list_any (λ (range : Range). nat_lt n range.upper) ranges

-- one of the ranges ends above what an outgoing sequence of ours accepted
abbrev pub is_invalid_at : List Fact → List Range → Option ℕ → Bool
is_invalid_at r ranges None = false
is_invalid_at r ranges (Some s) = is_above (accepted_count r s) ranges

-- a range above the accepted count of its outgoing sequence
abbrev pub is_invalid : List Fact → AckBlock → Bool
is_invalid r block = is_invalid_at r (ranges_of block.kind) (find_outgoing r block.ident)

-- a new CreateSequence whose AcksTo is None, or with 256 sequences there
abbrev pub refuses_create : List Fact → Option Text → Body → Bool
refuses_create r (Some t) (body.Lifecycle (life.Create c)) =
    is_none (find_grant r t) && (is_nowhere c.acks_to.address || nat_le limits.most_sequences (length (makers r)))
refuses_create r _ _ = false

-- a MakeConnection that selects neither an address nor something else: WS-MakeConnection 1.1, section 3.2
abbrev pub lacks_selection : Body → Bool
lacks_selection (body.Lifecycle (life.Make selection)) = is_none selection.address && not selection.other
lacks_selection _ = false

-- a MakeConnection that selects something else
abbrev pub selects_other : Body → Bool
selects_other (body.Lifecycle (life.Make selection)) = selection.other
selects_other _ = false

-- the batch fits the store, which ends at this place: neither the entry nor the journal is longer than it may be
abbrev pub has_room : Terms → ℕ → List Fact → Bool
has_room terms end [] = true
has_room terms end delta =
    nat_le (terms.size delta) limits.entry_bytes && nat_le (end + 6 + terms.size delta) limits.journal_bytes

-- the body is a Fault
abbrev pub is_fault_body : Body → Bool
is_fault_body (body.Fault f) = true
is_fault_body _ = false

-- the first kind whose test holds
abbrev pub first_held : List (Bool × FaultKind) → Option FaultKind
first_held [] = None
first_held (x ∷ xs) = if x.0 then Some x.1 else first_held xs

-- the kinds in order, but for the last one, which is want of room; a body that is a Fault gets none of those that
-- speak of sequences and bodies
abbrev pub early_tests : List Fact → ℕ → Message → List (Bool × FaultKind)
early_tests r now m =
    (not (is_fault_body m.body) && lacks_header m.sequence m.body, WsrmRequired)
    ∷ (
      not (is_fault_body m.body) && (is_unknown r (target m.sequence m.body) || names_none r m.acks m.asks m.body),
      UnknownSequence,
    )
    ∷ (not (is_fault_body m.body) && is_ended_for r now (going_on m.sequence m.body), SequenceTerminated)
    ∷ (not (is_fault_body m.body) && is_shut_for r now m.sequence, SequenceClosed)
    ∷ (list_any (is_invalid r) m.acks, InvalidAcknowledgement)
    ∷ (refuses_create r m.addressing.message_id m.body, CreateSequenceRefused)
    ∷ (lacks_selection m.body, MissingSelection)
    ∷ (selects_other m.body, UnsupportedSelection) ∷ []

-- all of them
abbrev pub tests : Terms → List Fact → ℕ → ℕ → Behaviour → Message → List (Bool × FaultKind)
tests terms r end now behaviour m =
    early_tests r now m ++ (not (has_room terms end (rows terms now behaviour m r)), StoreFull) ∷ []

-- the first kind that holds of a message, where one does
abbrev pub verdict : Terms → List Fact → ℕ → ℕ → Behaviour → Message → Option FaultKind
verdict terms r end now behaviour m = first_held (tests terms r end now behaviour m)
