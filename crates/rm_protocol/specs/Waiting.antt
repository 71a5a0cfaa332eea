-- Which messages and requests wait to be emitted, by the records of a node, and what a call makes of those that wait.
-- WS-ReliableMessaging 1.2, sections 2.4, 3.4 to 3.6 and 3.9.
use Rattle.std.specs.Prelude.{ℕ, zero, suc, ◌+◌, ◌&&◌, not, nat_le, Bool, true, false, List, []}
use Rattle.std.specs.Prelude.{◌∷◌, ◌++◌, filter, length, map, Option, Some, None}
use Rattle.rm_sides.specs.Ranges.Ranges.{in_ranges}
use Rattle.rm_sides.specs.declared.source.phase.OutPhase.{OutPhase}
use Rattle.rm_sides.specs.declared.source.phase.OutPhase.TheVariants as out
use Rattle.timers.specs.declared.slots.timers.Key.{Key}
use Rattle.timers.specs.Keys.Waits.{Wait, fresh, begin_all, urge_all, send_all}
use Rattle.rm_message.specs.declared.elements.header.AckBlock.{AckBlock}
use Rattle.rm_message.specs.declared.elements.header.AckKind.{AckKind}
use Rattle.rm_message.specs.declared.elements.header.AckKind.TheVariants as kind
use Rattle.record_batch.specs.Fact.{Fact, Creating, Accepted, Closing, Ending}
use Rattle.record_batch.specs.Sequences.Makers.{Maker, Outgoing, Taken, makers, maker}
use Rattle.rm_sides.specs.Source.Outgoing.{Sending, accepted_count as count_of}
use Rattle.record_batch.specs.Sequences.Sources.{accepted_count, is_sending}
use Rattle.record_batch.specs.Sequences.Told.{sending}
use Rattle.record_batch.specs.Sequences.Find.{find_outgoing}

-- the key of a message, or with number 0 of the request of its sequence
abbrev pub key : ℕ → ℕ → Key
key s i = record { seq = s; number = i }

-- a request waits for its response in these phases
abbrev pub is_requesting : OutPhase → Bool
is_requesting out.Creating = true
is_requesting out.Closing = true
is_requesting out.Ending = true
is_requesting _ = false

-- of a sequence of which this is known: number 0 waits for its request, and each other number for a message that was
-- accepted and isn't acknowledged, where messages are sent again
abbrev pub waits_in : Sending → ℕ → Bool
waits_in t zero = is_requesting t.phase
waits_in t (suc i) = is_sending t.phase && (nat_le (suc i) (count_of t) && not (in_ranges t.acked (suc i)))

-- the key of a sequence that was made so waits
abbrev pub waits_of : List Fact → ℕ → ℕ → Option Maker → Bool
waits_of r s i (Some (Outgoing ticket to via lapse)) = waits_in (sending r s) i
waits_of r s i (Some (Taken message_id ident endpoint)) = waits_in (sending r s) i
waits_of r s i _ = false

-- the key waits by these records
abbrev pub is_waiting : List Fact → Key → Bool
is_waiting r k = waits_of r k.seq k.number (maker r k.seq)

-- the numbers from i on, so many
abbrev pub numbers_from : ℕ → ℕ → List ℕ
numbers_from i zero = []
numbers_from i (suc count) = i ∷ numbers_from (i + 1) count

-- how many keys sequence s has, which was made so: its request and its messages, of which those that wait count
abbrev pub key_count : List Fact → ℕ → Maker → ℕ
key_count r s (Outgoing ticket to via lapse) = accepted_count r s + 1
key_count r s (Taken message_id ident endpoint) = accepted_count r s + 1
key_count r s _ = 0

-- these keys
abbrev pub keys_at : List Fact → ℕ → Maker → List Key
keys_at r s m = map (key s) (numbers_from 0 (key_count r s m))

-- of sequences k + 1, k + 2, and so on
abbrev pub keys_from : List Fact → ℕ → List Maker → List Key
keys_from r k [] = []
keys_from r k (m ∷ ms) = keys_at r (k + 1) m ++ keys_from r (k + 1) ms

-- the keys that wait by these records, by sequence and number
abbrev pub waiting_keys : List Fact → List Key
waiting_keys r = filter (is_waiting r) (keys_from r 0 (makers r))

-- what waits at a node that was just mounted: each such key, in class 0
abbrev pub mounted_waits : List Fact → List Wait
mounted_waits r = fresh (waiting_keys r)

-- the key that begins to wait with a record: a message that is accepted, and the request of a sequence that is asked
-- for, closed or ended
abbrev pub begun_of : List Fact → Fact → List Key
begun_of r (Creating ticket to via lapse offer) = key (length (makers r) + 1) 0 ∷ []
begun_of r (Accepted s payload) = key s (accepted_count r s + 1) ∷ []
begun_of r (Closing s ticket) = key s 0 ∷ []
begun_of r (Ending s ticket) = key s 0 ∷ []
begun_of r _ = []

-- those that begin to wait with records, which come behind r one after the other
abbrev pub begun_by : List Fact → List Fact → List Key
begun_by r [] = []
begun_by r (rec ∷ delta) = begun_of r rec ++ begun_by (r ++ rec ∷ []) delta

-- what a call does to the keys besides: these are wanted at once, these are emitted, and the time is at least this
pub record Moves : Type 0 where
  pub urged : List Key
  pub emitted : List Key
  pub time : ℕ

-- nothing
abbrev pub no_moves : Moves
no_moves = record { urged = []; emitted = []; time = 0 }

-- those that still wait by the records
abbrev pub still : List Fact → List Wait → List Wait
still r waits = filter (λ (w : Wait). is_waiting r w.key) waits

-- What waits after a call that added records behind r, at a time. What no longer waits is gone; what begins to wait is
-- put last in class 0, also where it waited already, and is emitted by the call; what is wanted at once is put last in
-- class 0; what is emitted is put last in its next class.
abbrev pub waits_after : List Fact → List Fact → Moves → ℕ → List Wait → List Wait
waits_after r delta moves time waits =
    send_all time (begun_by r delta ++ moves.emitted)
    (urge_all moves.urged (begin_all (begun_by r delta) (still (r ++ delta) waits)))

-- the numbers that a block says are missing
abbrev pub nacked_of : AckKind → List ℕ
nacked_of (kind.Nack numbers) = numbers
nacked_of _ = []

-- their keys, where the block is of an outgoing sequence
abbrev pub nacked_at : Option ℕ → List ℕ → List Key
nacked_at None numbers = []
nacked_at (Some s) numbers = map (key s) numbers

-- the keys that blocks say are missing, in order
abbrev pub nacked : List Fact → List AckBlock → List Key
nacked r [] = []
nacked r (block ∷ blocks) = nacked_at (find_outgoing r block.ident) (nacked_of block.kind) ++ nacked r blocks
