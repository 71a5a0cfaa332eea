-- A shorter list of records that says the same but for items that are gone.
use Rattle.std.specs.Prelude.{ℕ, ◌==◌, ◌&&◌, nat_lt, nat_le, Bool, false, if◌then◌else◌, List, [], ◌∷◌, ◌++◌, length}
use Rattle.std.specs.List.{list_any}
use Rattle.rm_sides.specs.declared.ranges.range.Range.{Range}
use Rattle.rm_sides.specs.Ranges.Changes.{united}
use Rattle.rm_sides.specs.Ranges.Ranges.{front_of, in_ranges}
use Rattle.rm_sides.specs.Destination.Incoming.{first_numbers, is_loose}
use Rattle.rm_sides.specs.Destination.Messages.{is_empty}
use Rattle.record_batch.specs.Fact.{Fact, Accepted, Acked, Received, Consumed, Dropped, Purged}
use Rattle.record_batch.specs.Sequences.Sources.{accepted_count, acked}
use Rattle.record_batch.specs.Sequences.Destinations.{behaviour, cursor, held, inbox}

-- the record tells numbers of sequence s that are acknowledged
abbrev pub acks : ℕ → Fact → Bool
acks s (Acked seq ranges) = seq == s
acks s _ = false

-- the greatest number such that 1 to it are acknowledged: the payloads up to it are sent no more
abbrev pub settled : List Fact → ℕ → ℕ
settled r s = front_of (united [] (acked r s))

-- of canonical ranges, those behind the one that begins at 1
abbrev pub past_front : List Range → List Range
past_front [] = []
past_front (x ∷ xs) = if x.lower == 1 then xs else x ∷ xs

-- the acknowledged numbers that a snapshot tells one by one
abbrev pub left_acked : List Fact → ℕ → List Range
left_acked r s = past_front (united [] (acked r s))

-- the numbers of the inbox items that were consumed, where there are some
abbrev pub passed : List Fact → ℕ → List Range
passed r s =
    if nat_lt 0 (cursor r s) && nat_le (cursor r s) (length (inbox r s))
    then first_numbers (is_loose (behaviour r s)) (held r s) (cursor r s) else []

-- Acked, where there is a number
abbrev pub acked_with : ℕ → List Range → List Fact
acked_with seq [] = []
acked_with seq (x ∷ xs) = Acked seq (x ∷ xs) ∷ []

-- Purged, where there is a number
abbrev pub purged_with : ℕ → List Range → List Fact
purged_with seq [] = []
purged_with seq (x ∷ xs) = Purged seq (x ∷ xs) ∷ []

-- What stands in a snapshot of r in the place of a record, with those before it and those behind it. Messages that are
-- settled become one Dropped, in the place of the first of them, and the last Acked record has the other acknowledged
-- numbers. Messages that were consumed become one Purged, in the place of the first record of a message, before that
-- where it stays; it says how far they were consumed too. All other records stay
abbrev pub instead : List Fact → List Fact → Fact → List Fact → List Fact
instead r before (Acked seq ranges) behind =
    if list_any (acks seq) behind then [] else acked_with seq (left_acked r seq)
instead r before (Accepted seq payload) behind =
    if nat_lt (accepted_count before seq) (settled r seq)
    then (if accepted_count before seq == 0 then Dropped seq (settled r seq) ∷ [] else [])
    else Accepted seq payload ∷ []
instead r before (Dropped seq upto) behind = Dropped seq (settled r seq) ∷ []
instead r before (Received seq n payload) behind =
    (if is_empty (held before seq) then purged_with seq (passed r seq) else [])
    ++ (if in_ranges (passed r seq) n then [] else Received seq n payload ∷ [])
instead r before (Purged seq ranges) behind =
    if is_empty (passed r seq) then Purged seq ranges ∷ [] else purged_with seq (passed r seq)
instead r before (Consumed seq upto) behind = if is_empty (passed r seq) then Consumed seq upto ∷ [] else []
instead r before f behind = f ∷ []

-- of the records behind some of r
abbrev pub snapshot_from : List Fact → List Fact → List Fact → List Fact
snapshot_from r before [] = []
snapshot_from r before (f ∷ behind) = instead r before f behind ++ snapshot_from r (before ++ f ∷ []) behind

-- of all records
abbrev pub snapshot : List Fact → List Fact
snapshot r = snapshot_from r [] r
