-- Which record may come next after a list of records.
use Rattle.std.specs.Prelude.{ℕ, ◌+◌, ◌^◌, ◌==◌, ◌&&◌, nat_le, nat_lt, not, Bool, true, false, List, [], ◌∷◌, ◌++◌}
use Rattle.std.specs.Prelude.{length, Option, Some, None}
use Rattle.std.specs.List.{list_all}
use Rattle.rm_sides.specs.declared.ranges.range.Range.{Range}
use Rattle.rm_base.specs.Message.{max_number}
use Rattle.rm_base.specs.NumberSet.{has_number}
use Rattle.rm_sides.specs.declared.source.phase.OutPhase.{OutPhase}
use Rattle.rm_sides.specs.declared.source.phase.OutPhase.TheVariants as out
use Rattle.record_batch.specs.declared.record.OwnOffer.{OwnOffer}
use Rattle.record_batch.specs.Fact.{Fact, Made, Creating, Created, Granted, Accepted, Acked, Received, Closing}
use Rattle.record_batch.specs.Fact.{ClosedOut, Closed, Ending, EndedOut, Ended, Failed, Consumed, Dropped, Purged}
use Rattle.rm_sides.specs.Destination.Incoming.{is_loose}
use Rattle.rm_sides.specs.Destination.Messages.{is_empty}
use Rattle.record_batch.specs.Sequences.Makers.{Maker, Outgoing, Offered, Incoming, Taken, makers, makers_of, maker}
use Rattle.record_batch.specs.Sequences.Makers.{counter}
use Rattle.record_batch.specs.Sequences.Sources.{accepted_count, phase}
use Rattle.record_batch.specs.Sequences.Destinations.{behaviour, cursor, held, inbox, is_stopped, has_end}

-- a sequence that was made so is outgoing
abbrev pub is_outgoing_side : Option Maker → Bool
is_outgoing_side (Some (Outgoing ticket to via lapse)) = true
is_outgoing_side (Some (Taken message_id ident endpoint)) = true
is_outgoing_side _ = false

-- a sequence that was made so is incoming
abbrev pub is_incoming_side : Option Maker → Bool
is_incoming_side (Some (Incoming counter message_id acks_to behaviour deadline lapse)) = true
is_incoming_side (Some (Offered ticket counter to behaviour)) = true
is_incoming_side _ = false

-- the records that may follow in each phase of an outgoing sequence
abbrev pub follows : OutPhase → Fact → Bool
follows out.Creating (Created seq ident accept) = true
follows out.Creating (Failed seq fault) = true
follows out.Open (Accepted seq payload) = true
follows out.Open (Dropped seq upto) = true
follows out.Open (Closing seq ticket) = true
follows out.Open (ClosedOut seq) = true
follows out.Open (Ending seq ticket) = true
follows out.Open (Failed seq fault) = true
follows out.Closing (ClosedOut seq) = true
follows out.Closing (Ending seq ticket) = true
follows out.Closing (Failed seq fault) = true
follows out.Closed (Ending seq ticket) = true
follows out.Closed (Failed seq fault) = true
follows out.Ending (EndedOut seq) = true
follows _ _ = false

-- sequence s is outgoing, and the record may follow in its phase
abbrev pub follows_at : List Fact → ℕ → Fact → Bool
follows_at r s rec = is_outgoing_side (maker r s) && follows (phase r s) rec

-- the second number is the next one after that of the ticket
abbrev pub offer_fits : ℕ → Option OwnOffer → Bool
offer_fits drawn None = true
offer_fits drawn (Some offer) = offer.counter == drawn + 2

-- a deadline that is no moment: 0
abbrev pub is_no_moment : Option ℕ → Bool
is_no_moment None = false
is_no_moment (Some moment) = moment == 0

-- a place is left for the sequences that the record makes: their numbers have 32 bits
abbrev pub has_places : List Fact → Fact → Bool
has_places r rec = nat_le (length (makers r) + length (makers_of rec)) 4294967295

-- the numbers of a range are from 1 to n
abbrev pub is_up_to : ℕ → Range → Bool
is_up_to n range = nat_le 1 range.lower && nat_le range.upper n

-- the numbers are exactly 1 to some n
abbrev pub is_first_run : List Range → Bool
is_first_run (x ∷ []) = (x.lower == 1) && nat_le 1 x.upper
is_first_run _ = false

-- the ranges begin at first or later, and are a set of message numbers: each has one, and between each two neighbours
-- lies a number that is in none
abbrev pub is_set_from : ℕ → List Range → Bool
is_set_from first [] = true
is_set_from first (x ∷ xs) =
    nat_le first x.lower && (nat_le x.lower x.upper && (nat_le x.upper max_number && is_set_from (x.upper + 2) xs))

-- what may be gone: of a loose sequence any numbers, of another one exactly 1 to some n
abbrev pub may_be_gone : Bool → List Range → Bool
may_be_gone true ranges = not (is_empty ranges) && is_set_from 1 ranges
may_be_gone false ranges = is_first_run ranges

-- the record may come after r. A message number is at most 9223372036854775807: WS-ReliableMessaging 1.2, section 3.7
abbrev pub fits : List Fact → Fact → Bool
fits r (Made node address) = is_empty r && (nat_le 1 node && nat_lt node (2 ^ 60))
fits r (Creating ticket to via lapse offer) =
    (ticket == counter r + 1) && (offer_fits (counter r) offer && has_places r (Creating ticket to via lapse offer))
fits r (Created seq ident accept) = follows_at r seq (Created seq ident accept)
fits r (Granted drawn message_id acks_to behaviour deadline lapse offer) =
    (drawn == counter r + 1) && (not (is_no_moment deadline)
    && has_places r (Granted drawn message_id acks_to behaviour deadline lapse offer))
fits r (Accepted seq payload) =
    follows_at r seq (Accepted seq payload) && nat_lt (accepted_count r seq) max_number
fits r (Acked seq ranges) = is_outgoing_side (maker r seq) && list_all (is_up_to (accepted_count r seq)) ranges
fits r (Received seq n payload) =
    is_incoming_side (maker r seq) && (nat_le 1 n && (nat_le n max_number
    && (not (has_number (held r seq) n) && not (is_stopped r seq))))
fits r (Closing seq ticket) = (ticket == counter r + 1) && follows_at r seq (Closing seq ticket)
fits r (ClosedOut seq) = follows_at r seq (ClosedOut seq)
fits r (Closed seq cause last) = is_incoming_side (maker r seq) && not (is_stopped r seq)
fits r (Ending seq ticket) = (ticket == counter r + 1) && follows_at r seq (Ending seq ticket)
fits r (EndedOut seq) = follows_at r seq (EndedOut seq)
fits r (Ended seq cause last) = is_incoming_side (maker r seq) && not (has_end r seq)
fits r (Failed seq fault) = follows_at r seq (Failed seq fault)
fits r (Consumed seq upto) =
    is_incoming_side (maker r seq) && (nat_lt (cursor r seq) upto && nat_le upto (length (inbox r seq)))
fits r (Dropped seq upto) =
    follows_at r seq (Dropped seq upto)
    && ((accepted_count r seq == 0) && (nat_le 1 upto && nat_le upto max_number))
fits r (Purged seq ranges) =
    is_incoming_side (maker r seq)
    && (is_empty (held r seq)
    && (list_all (is_up_to max_number) ranges && may_be_gone (is_loose (behaviour r seq)) ranges))

-- each of the records may come after those before it
abbrev pub all_fit : List Fact → List Fact → Bool
all_fit r [] = true
all_fit r (rec ∷ more) = fits r rec && all_fit (r ++ rec ∷ []) more
