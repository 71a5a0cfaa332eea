-- A record that names a sequence fits exactly where its number is the next one and the sequence takes it.
use Rattle.std.proofs.Common.{◌≡◌, ℕ, ◌+◌, ◌==◌, Bool, true, false, List, [], ◌∷◌, refl, ap, ◌∙◌, Option, Some}
use Rattle.std.specs.Prelude.{◌&&◌, not, nat_le, nat_lt, length}
use Rattle.std.specs.List.{list_all}
use Rattle.std.proofs.lemmas.Option.{none-some}
use Rattle.rm_sides.specs.declared.ranges.range.Range.{Range}
use Rattle.rm_base.specs.Message.{max_number}
use Rattle.rm_base.specs.NumberSet.{has_number}
use Rattle.rm_base.specs.declared.message.Cause.{Cause}
use Rattle.rm_base.specs.declared.message.Payload.{Payload}
use Rattle.wsa_headers.specs.declared.endpoint.Epr.{Epr}
use Rattle.rm_sides.specs.Destination.Messages.{is_empty, any_true}
use Rattle.record_batch.specs.Fact.{Fact, Made, Creating, Granted, Created, Accepted, Acked, Received}
use Rattle.record_batch.specs.Fact.{Closing}
use Rattle.record_batch.specs.Fact.{ClosedOut, Closed, Ending, EndedOut, Ended, Failed, Consumed, Dropped, Purged}
use Rattle.rm_sides.specs.Destination.Messages.{is_empty as no_items}
use Rattle.record_batch.specs.Sequences.Makers.{Maker, Outgoing, maker, counter}
use Rattle.record_batch.specs.Sequences.Sources.{accepted_count, phase}
use Rattle.rm_sides.specs.Destination.Messages.{any_true as has_true}
use Rattle.rm_sides.specs.Destination.Incoming.{inbox_of, is_loose}
use Rattle.record_batch.specs.Sequences.Destinations.{behaviour_of, closes, cursor, held, items, told}
use Rattle.record_batch.specs.Sequences.Fits.{fits, follows, is_outgoing_side, is_incoming_side, is_up_to}
use Rattle.record_batch.specs.Sequences.Fits.{may_be_gone}
use Rattle.record_batch.specs.Sequences.Told.{names, side_of}
use Rattle.node_tables.specs.Row.Row.{takes, draws_next, is_sender, is_receiver}

same_empty : (xs : List Bool) → not (not (no_items xs)) ≡ is_empty xs
same_empty [] = refl
same_empty (x ∷ xs) = refl

same_any : (xs : List Bool) → has_true xs ≡ any_true xs
same_any [] = refl
same_any (true ∷ xs) = refl
same_any (false ∷ xs) = same_any xs

outgoing_sender : (r : List Fact) (s : ℕ) (m : Maker) → is_outgoing_side (Some m) ≡ is_sender (side_of r s m)
outgoing_sender r s (Outgoing ticket to via lapse) = refl
outgoing_sender r s _ = refl

incoming_receiver : (r : List Fact) (s : ℕ) (m : Maker) → is_incoming_side (Some m) ≡ is_receiver (side_of r s m)
incoming_receiver r s (Outgoing ticket to via lapse) = refl
incoming_receiver r s _ = refl

-- on the side of the sequence that is there
sent : (r : List Fact) (s : ℕ) (m : Maker) → maker r s ≡ Some m → (x y : Bool) → (is_sender (side_of r s m) && x) ≡ y
    → (is_outgoing_side (maker r s) && x) ≡ y
sent r s m there x y is = ap (λ o. is_outgoing_side o && x) there ∙ ap (λ b. b && x) (outgoing_sender r s m) ∙ is

came : (r : List Fact) (s : ℕ) (m : Maker) → maker r s ≡ Some m → (x y : Bool) → (is_receiver (side_of r s m) && x) ≡ y
    → (is_incoming_side (maker r s) && x) ≡ y
came r s m there x y is = ap (λ o. is_incoming_side o && x) there ∙ ap (λ b. b && x) (incoming_receiver r s m) ∙ is

created : (r : List Fact) (s : ℕ) (ident : List ℕ) (accept : Option Epr) (m : Maker)
    → (is_sender (side_of r s m) && follows (phase r s) (Created s ident accept))
    ≡ takes (side_of r s m) (Created s ident accept)
created r s ident accept (Outgoing number to via lapse) = refl
created r s ident accept _ = refl

closing : (r : List Fact) (s : ℕ) (ticket : ℕ) (m : Maker)
    → (is_sender (side_of r s m) && follows (phase r s) (Closing s ticket)) ≡ takes (side_of r s m) (Closing s ticket)
closing r s ticket (Outgoing number to via lapse) = refl
closing r s ticket _ = refl

closed_out : (r : List Fact) (s : ℕ) (m : Maker)
    → (is_sender (side_of r s m) && follows (phase r s) (ClosedOut s)) ≡ takes (side_of r s m) (ClosedOut s)
closed_out r s (Outgoing number to via lapse) = refl
closed_out r s _ = refl

ending : (r : List Fact) (s : ℕ) (ticket : ℕ) (m : Maker)
    → (is_sender (side_of r s m) && follows (phase r s) (Ending s ticket)) ≡ takes (side_of r s m) (Ending s ticket)
ending r s ticket (Outgoing number to via lapse) = refl
ending r s ticket _ = refl

ended_out : (r : List Fact) (s : ℕ) (m : Maker)
    → (is_sender (side_of r s m) && follows (phase r s) (EndedOut s)) ≡ takes (side_of r s m) (EndedOut s)
ended_out r s (Outgoing number to via lapse) = refl
ended_out r s _ = refl

failed : (r : List Fact) (s : ℕ) (fault : ℕ) (m : Maker)
    → (is_sender (side_of r s m) && follows (phase r s) (Failed s fault)) ≡ takes (side_of r s m) (Failed s fault)
failed r s fault (Outgoing number to via lapse) = refl
failed r s fault _ = refl

accepting : (r : List Fact) (s : ℕ) (payload : List ℕ) (m : Maker)
    → ((is_sender (side_of r s m) && follows (phase r s) (Accepted s payload))
    && nat_lt (accepted_count r s) max_number) ≡ takes (side_of r s m) (Accepted s payload)
accepting r s payload (Outgoing number to via lapse) = refl
accepting r s payload _ = refl

acking : (r : List Fact) (s : ℕ) (ranges : List Range) (m : Maker)
    → (is_sender (side_of r s m) && list_all (is_up_to (accepted_count r s)) ranges)
    ≡ takes (side_of r s m) (Acked s ranges)
acking r s ranges (Outgoing number to via lapse) = refl
acking r s ranges _ = refl

-- the tests of a record Dropped, but for the side and the phase
abbrev may_be_dropped : List Fact → ℕ → ℕ → Bool
may_be_dropped r s upto = (accepted_count r s == 0) && (nat_le 1 upto && nat_le upto max_number)

dropping : (r : List Fact) (s upto : ℕ) (m : Maker)
    → ((is_sender (side_of r s m) && follows (phase r s) (Dropped s upto)) && may_be_dropped r s upto)
    ≡ takes (side_of r s m) (Dropped s upto)
dropping r s upto (Outgoing number to via lapse) = refl
dropping r s upto _ = refl

-- the tests of a record Received, but for the side
abbrev is_next_message : List Fact → ℕ → ℕ → Bool
is_next_message r s n =
    nat_le 1 n && (nat_le n max_number && (not (has_number (held r s) n) && is_empty (closes r s)))

receiving_one : (r : List Fact) (s n : ℕ) (payload : Payload) (m : Maker)
    → (is_receiver (side_of r s m) && is_next_message r s n) ≡ takes (side_of r s m) (Received s n payload)
receiving_one r s n payload (Outgoing number to via lapse) = refl
receiving_one r s n payload _ = refl

closed : (r : List Fact) (s : ℕ) (cause : Cause) (last : ℕ) (m : Maker)
    → (is_receiver (side_of r s m) && is_empty (closes r s)) ≡ takes (side_of r s m) (Closed s cause last)
closed r s cause last (Outgoing number to via lapse) = refl
closed r s cause last _ = refl

ended : (r : List Fact) (s : ℕ) (cause : Cause) (last : ℕ) (m : Maker)
    → (is_receiver (side_of r s m) && not (any_true (closes r s))) ≡ takes (side_of r s m) (Ended s cause last)
ended r s cause last (Outgoing number to via lapse) = refl
ended r s cause last _ = refl

-- the tests of a record Consumed, but for the side
abbrev is_further : List Fact → ℕ → ℕ → Option Maker → Bool
is_further r s upto o =
    nat_lt (cursor r s) upto && nat_le upto (length (inbox_of (behaviour_of o) (told r s) (items r s)))

consuming : (r : List Fact) (s upto : ℕ) (m : Maker)
    → (is_receiver (side_of r s m) && is_further r s upto (Some m)) ≡ takes (side_of r s m) (Consumed s upto)
consuming r s upto (Outgoing number to via lapse) = refl
consuming r s upto _ = refl

-- the tests of a record Purged, but for the side
abbrev is_purging : List Fact → ℕ → List Range → Option Maker → Bool
is_purging r s ranges o =
    is_empty (held r s)
    && (list_all (is_up_to max_number) ranges && may_be_gone (is_loose (behaviour_of o)) ranges)

purging : (r : List Fact) (s : ℕ) (ranges : List Range) (m : Maker)
    → (is_receiver (side_of r s m) && is_purging r s ranges (Some m)) ≡ takes (side_of r s m) (Purged s ranges)
purging r s ranges (Outgoing number to via lapse) = refl
purging r s ranges _ = refl

pub fits-takes : (r : List Fact) (f : Fact) (m : Maker) → maker r (names f) ≡ Some m
    → fits r f ≡ (draws_next r f && takes (side_of r (names f) m) f)
fits-takes r (Made node address) m e = absurd (none-some m e)
fits-takes r (Creating ticket to via lapse offer) m e = absurd (none-some m e)
fits-takes r (Granted number message_id acks_to behaviour deadline lapse offer) m e = absurd (none-some m e)
fits-takes r (Accepted s payload) m e =
    ap (λ o. (is_outgoing_side o && follows (phase r s) (Accepted s payload))
    && nat_lt (accepted_count r s) max_number) e
    ∙ ap (λ b. (b && follows (phase r s) (Accepted s payload)) && nat_lt (accepted_count r s) max_number)
    (outgoing_sender r s m)
    ∙ accepting r s payload m
fits-takes r (Acked s ranges) m e = sent r s m e _ _ (acking r s ranges m)
fits-takes r (Received s n payload) m e =
    ap (λ b. is_incoming_side (maker r s) && (nat_le 1 n && (nat_le n max_number
    && (not (has_number (held r s) n) && b)))) (same_empty (closes r s))
    ∙ came r s m e _ _ (receiving_one r s n payload m)
fits-takes r (Closed s cause last) m e =
    ap (λ b. is_incoming_side (maker r s) && b) (same_empty (closes r s))
    ∙ came r s m e _ _ (closed r s cause last m)
fits-takes r (Ended s cause last) m e =
    ap (λ b. is_incoming_side (maker r s) && not b) (same_any (closes r s))
    ∙ came r s m e _ _ (ended r s cause last m)
fits-takes r (Created s ident accept) m e = sent r s m e _ _ (created r s ident accept m)
fits-takes r (Closing s ticket) m e = ap (λ b. (ticket == counter r + 1) && b) (sent r s m e _ _ (closing r s ticket m))
fits-takes r (ClosedOut s) m e = sent r s m e _ _ (closed_out r s m)
fits-takes r (Ending s ticket) m e = ap (λ b. (ticket == counter r + 1) && b) (sent r s m e _ _ (ending r s ticket m))
fits-takes r (EndedOut s) m e = sent r s m e _ _ (ended_out r s m)
fits-takes r (Failed s fault) m e = sent r s m e _ _ (failed r s fault m)
fits-takes r (Consumed s upto) m e =
    ap (λ o. is_incoming_side (maker r s) && is_further r s upto o) e ∙ came r s m e _ _ (consuming r s upto m)
fits-takes r (Dropped s upto) m e =
    ap (λ o. (is_outgoing_side o && follows (phase r s) (Dropped s upto)) && may_be_dropped r s upto) e
    ∙ ap (λ b. (b && follows (phase r s) (Dropped s upto)) && may_be_dropped r s upto) (outgoing_sender r s m)
    ∙ dropping r s upto m
fits-takes r (Purged s ranges) m e =
    ap (λ o. is_incoming_side (maker r s) && is_purging r s ranges o) e ∙ came r s m e _ _ (purging r s ranges m)
