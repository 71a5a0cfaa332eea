-- The records of a node with others ahead of them, which are not written yet.
use Rattle.std.specs.Prelude.{◌≡◌, ℕ, ◌≤◌, Bool, true, false, List, [], ◌∷◌, ◌++◌, length, Option, Some, None}
use Rattle.std.specs.List.{flat_map, list_all}
use Rattle.rm_base.specs.Message.{max_number}
use Rattle.rm_sides.specs.declared.ranges.range.Range.{Range}
use Rattle.rm_sides.specs.Ranges.Ranges.{Contents}
use Rattle.record_batch.specs.Fact.{Fact, Made, Creating, Granted, Dropped, Purged}
use Rattle.rm_sides.specs.declared.source.phase.OutPhase.{OutPhase}
use Rattle.rm_sides.specs.declared.source.phase.OutPhase.TheVariants as out
use Rattle.record_batch.specs.Sequences.Words.{Text}
use Rattle.record_batch.specs.Sequences.Find.{find_from, find_incoming}
use Rattle.record_batch.specs.Sequences.Idents.{IsIssuedFor}
use Rattle.record_batch.specs.Sequences.Makers.{Maker, makers, number, nodes_of, addresses_of}
use Rattle.record_batch.specs.Sequences.Fits.{all_fit, has_places}
use Rattle.node_tables.specs.Room.{has_room}

-- the records of the tables, and those ahead of them, oldest first
pub record KnownRecords : Type 0 where
  pub records : List Fact
  pub delta : List Fact

-- all that is known: the records of the tables and, behind them, those ahead
abbrev pub all_records : KnownRecords → List Fact
all_records known = known.records ++ known.delta

-- the first sequence that the records ahead make of which a test holds
abbrev pub find_ahead : (ℕ → Maker → Bool) → KnownRecords → Option ℕ
find_ahead f known = find_from f (length (makers known.records)) (makers known.delta)

-- the record may go ahead of r: it isn't that of the node itself, it says of no message that it is gone, which a
-- snapshot
-- alone says, and a place is left for each sequence that it makes
abbrev pub may_go_ahead : List Fact → Fact → Bool
may_go_ahead r (Made node address) = false
may_go_ahead r (Creating ticket to via lapse offer) = has_places r (Creating ticket to via lapse offer)
may_go_ahead r (Granted drawn message_id acks_to behaviour deadline lapse offer) =
    has_places r (Granted drawn message_id acks_to behaviour deadline lapse offer)
may_go_ahead r (Dropped seq upto) = false
may_go_ahead r (Purged seq ranges) = false
may_go_ahead r _ = true

-- where a number is kept, the incoming sequence with the identifier that was issued for it is this
pub record IsSought (r : List Fact) (drawn seq : Option ℕ) : Type 0 where
  pub is : (q : Text) (d : ℕ) → drawn ≡ Some d → IsIssuedFor (number r) q (Some d) → find_incoming r q ≡ seq

-- the records of the tables fit one after the other, the node itself is none of those ahead, nor is a record that says
-- that messages are gone, all sequences are counted, and what was sought of the tables is so
pub record IsAhead (r d : List Fact) (len : ℕ) (drawn seq : Option ℕ) : Type 0 where
  pub fit : all_fit [] r ≡ true
  pub nodes : flat_map nodes_of d ≡ []
  pub live : list_all has_room d ≡ true
  pub addresses : flat_map addresses_of d ≡ []
  pub counted : len ≡ length (makers (r ++ d))
  pub few : length (makers (r ++ d)) ≤ 4294967295
  pub sought : IsSought r drawn seq

-- the ranges of a set that is there, or isn't
abbrev pub ranges_in : Option Contents → List Range
ranges_in None = []
ranges_in (Some set) = set.ranges

-- each of them is a message number: WS-ReliableMessaging 1.2, section 3.7
abbrev pub AreNumbers : List ℕ → Type 0
AreNumbers [] = Unit {0}
AreNumbers (n ∷ ns) = ((1 ≤ n) × (n ≤ max_number)) × AreNumbers ns

-- a phase, where an identifier may come: a sequence in phase Creating is open then
abbrev pub opened : OutPhase → Option Text → OutPhase
opened out.Creating (Some q) = out.Open
opened phase ident = phase
