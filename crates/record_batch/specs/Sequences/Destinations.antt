-- What a list of records says of incoming sequences: WS-ReliableMessaging 1.2, sections 2.4, 3.4 to 3.6 and 3.9.
use Rattle.std.specs.Prelude.{ℕ, ◌==◌, ◌||◌, not, Bool, true, false, if◌then◌else◌, List, [], ◌∷◌}
use Rattle.std.specs.Prelude.{length, drop, Option, Some, None, map}
use Rattle.std.specs.List.{flat_map}
use Rattle.rm_sides.specs.declared.ranges.range.Range.{Range}
use Rattle.rm_sides.specs.Ranges.Ranges.{count_of}
use Rattle.rm_base.specs.NumberSet.{greatest_of}
use Rattle.rm_base.specs.declared.message.Behaviour.{Behaviour}
use Rattle.rm_base.specs.declared.message.Behaviour.TheVariants.{FollowingFirstGap}
use Rattle.rm_base.specs.declared.message.Cause.TheVariants.{Peer}
use Rattle.rm_base.specs.declared.message.Payload.{Payload}
use Rattle.rm_sides.specs.Destination.Incoming.{inbox_of, is_past, is_whole_by}
use Rattle.rm_sides.specs.Destination.Messages.{Item, any_true, contents_of, is_empty, items_of, numbers_of}
use Rattle.rm_sides.specs.Destination.Messages.{sorted_onto}
use Rattle.rm_sides.specs.Destination.Messages.{without_gap}
use Rattle.record_batch.specs.Fact.{Fact, Received, Closed, Ended, Consumed, Purged}
use Rattle.record_batch.specs.Sequences.Words.{Text, at_seq}
use Rattle.record_batch.specs.Sequences.Makers.{Maker, Incoming, Offered, maker}

-- the message that a record takes for sequence s
abbrev pub received_of : ℕ → Fact → List (ℕ × Payload)
received_of s (Received seq n payload) = if seq == s then (n, payload) ∷ [] else []
received_of s _ = []

-- the messages that were received and aren't gone, in the order in which they came
abbrev pub received : List Fact → ℕ → List (ℕ × Payload)
received r s = flat_map (received_of s) r

-- the numbers of messages of sequence s of which a record says that they are gone
abbrev pub purged_of : ℕ → Fact → List Range
purged_of s (Purged seq ranges) = if seq == s then ranges else []
purged_of s _ = []

-- the numbers of the messages that were received and are gone, as ranges
abbrev pub purged : List Fact → ℕ → List Range
purged r s = flat_map (purged_of s) r

-- all that was received: the gone ones, and then the others in the order in which they came
abbrev pub items : List Fact → ℕ → List (ℕ × Item)
items r s = items_of (purged r s) (received r s)

-- the numbers that were received: what was received is held for good
abbrev pub held : List Fact → ℕ → List ℕ
held r s = numbers_of (items r s)

-- the messages that were received, by rising number
abbrev pub messages : List Fact → ℕ → List (ℕ × Item)
messages r s = sorted_onto [] (items r s)

-- the messages up to the first gap
abbrev pub front_part : List Fact → ℕ → List Item
front_part r s = without_gap 0 (messages r s)

-- the greatest m such that 1 to m were received
abbrev pub front : List Fact → ℕ → ℕ
front r s = length (front_part r s)

-- the records by which a sequence was closed or ended: true where it was ended
abbrev pub close_of : Fact → List (ℕ × Bool)
close_of (Closed seq cause last) = (seq, false) ∷ []
close_of (Ended seq cause last) = (seq, true) ∷ []
close_of _ = []

-- those records of one sequence, in order
abbrev pub closes : List Fact → ℕ → List Bool
closes r s = at_seq s (flat_map close_of r)

-- there is a record by which the sequence was closed or ended
abbrev pub is_stopped : List Fact → ℕ → Bool
is_stopped r s = not (is_empty (closes r s))

-- there is a record by which it was ended
abbrev pub has_end : List Fact → ℕ → Bool
has_end r s = any_true (closes r s)

-- the moment at which a sequence expires, in milliseconds since 1970 UTC; an offered one never does
abbrev pub deadline_of : Option Maker → Option ℕ
deadline_of (Some (Incoming counter message_id acks_to behaviour deadline lapse)) = deadline
deadline_of _ = None

-- ended at a moment: by a record, or by its deadline
abbrev pub is_ended : List Fact → ℕ → ℕ → Bool
is_ended r s now = has_end r s || is_past (deadline_of (maker r s)) now

-- no longer open at a moment
abbrev pub is_over : List Fact → ℕ → ℕ → Bool
is_over r s now = is_stopped r s || is_past (deadline_of (maker r s)) now

-- the last numbers that its peer told with CloseSequence or TerminateSequence, 0 where there was none
abbrev pub told_of : Fact → List (ℕ × ℕ)
told_of (Closed seq Peer last) = (seq, last) ∷ []
told_of (Ended seq Peer last) = (seq, last) ∷ []
told_of _ = []

-- those of one sequence, in order
abbrev pub told : List Fact → ℕ → List ℕ
told r s = at_seq s (flat_map told_of r)

-- its peer closed or ended the sequence, and all messages were received
abbrev pub is_complete : List Fact → ℕ → Bool
is_complete r s = is_whole_by (told r s) (messages r s)

-- what was announced for a sequence that was made so
abbrev pub behaviour_of : Option Maker → Behaviour
behaviour_of (Some (Incoming counter message_id acks_to behaviour deadline lapse)) = behaviour
behaviour_of (Some (Offered ticket counter to behaviour)) = behaviour
behaviour_of _ = FollowingFirstGap

-- what was announced for sequence s
abbrev pub behaviour : List Fact → ℕ → Behaviour
behaviour r s = behaviour_of (maker r s)

-- what is released to the application
abbrev pub inbox : List Fact → ℕ → List Item
inbox r s = inbox_of (behaviour r s) (told r s) (items r s)

-- of what was received, what is never released, once the sequence is closed or ended by a record
abbrev pub discarded : List Fact → ℕ → List Item
discarded r s = if is_stopped r s then drop (length (inbox r s)) (contents_of (messages r s)) else []

-- the bytes of payloads
abbrev pub texts : List Payload → List Text
texts ps = map (λ (p : Payload). p.bytes) ps

-- how far a record says that the application of sequence s has consumed
abbrev pub cursor_of : ℕ → Fact → List ℕ
cursor_of s (Consumed seq upto) = if seq == s then upto ∷ [] else []
cursor_of s (Purged seq ranges) = if seq == s then count_of ranges ∷ [] else []
cursor_of s _ = []

-- how many items of the inbox the application has consumed
abbrev pub cursor : List Fact → ℕ → ℕ
cursor r s = greatest_of (flat_map (cursor_of s) r)

-- what is released by records among which nothing is gone
abbrev pub released : List Fact → ℕ → List Payload
released r s = inbox_of (behaviour r s) (told r s) (received r s)
