-- The promise of a relay from end to end, by the records of three nodes.
use Rattle.std.specs.Prelude.{◌≡◌, ℕ, true, List, []}
use Rattle.rm_sides.specs.Ranges.Ranges.{in_ranges}
use Rattle.rm_base.specs.NumberSet.{has_number}
use Rattle.rm_base.specs.declared.message.Payload.{Payload}
use Rattle.record_batch.specs.Fact.{Fact}
use Rattle.record_batch.specs.Sequences.Destinations.{held, texts}
use Rattle.record_batch.specs.Sequences.Sources.{acked}
use Rattle.rm_protocol.specs.Crashes.{IsLeft}
use Rattle.rm_protocol.specs.Pair.{IsMade}
use Rattle.rm_protocol.specs.Sound.{Keeps}
use Rattle.rm_protocol.specs.Terms.{AreTerms, Terms}
use Rattle.rm_protocol.specs.Word.{Has, HasNoSource, IsPrefixOf, Matches, history}
use Rattle.rm_relay.specs.Word.Ends.{AreEnds, IsAhead}
use Rattle.rm_relay.specs.Word.World.{Event, World, address_of, run, start}
use Rattle.rm_relay.specs.declared.word.station.Station.TheVariants.{One, Two, Three}

-- Of the nodes with records a, b and c, each beside all that it ever had. What the second one ever accepted on its
-- first outgoing sequence is a prefix of what it consumed of its first incoming one followed by the inbox past the
-- cursor; it consumed no more than it accepted there, so that the item to forward is there once it came; and so what
-- the third one consumed and holds on the matching sequence is a prefix of what the first one accepted, and nothing
-- where the first one has no sequence that matches. What a node counts as acknowledged the next one received.
pub record KeepsRelay (a_whole b b_whole c c_whole : List Fact) : Type 0 where
  pub second : (t : ℕ) → (all : List Payload) × Has b b_whole t all
  pub third : (t : ℕ) → (all : List Payload) × Has c c_whole t all
  pub forwarded : (into out : ℕ) → AreEnds b into out → IsPrefixOf (history b_whole out) (texts (second into).0)
  pub ahead : (into out : ℕ) → AreEnds b into out → IsAhead b into out
  pub relayed : (s into out t : ℕ) → AreEnds b into out → Matches a_whole b_whole s into
      → Matches b_whole c_whole out t → IsPrefixOf (texts (third t).0) (history a_whole s)
  pub none : (into out t : ℕ) → AreEnds b into out → HasNoSource a_whole b_whole into → Matches b_whole c_whole out t
      → (third t).0 ≡ []
  pub held_second : (s t : ℕ) → Matches a_whole b_whole s t → (n : ℕ) → in_ranges (acked a_whole s) n ≡ true
      → has_number (held b t) n ≡ true
  pub held_third : (s t : ℕ) → Matches b_whole c_whole s t → (n : ℕ) → in_ranges (acked b s) n ≡ true
      → has_number (held c t) n ≡ true

-- the three nodes were made
pub record AreThree (terms : Terms) : Type 0 where
  pub one : IsMade terms 1 (address_of One)
  pub two : IsMade terms 2 (address_of Two)
  pub three : IsMade terms 3 (address_of Three)

-- at each three images of the disks
abbrev pub KeepsWord : World → Type 0
KeepsWord w =
    (a a_whole b b_whole c c_whole : List Fact) → IsLeft w.one a a_whole → IsLeft w.two b b_whole
    → IsLeft w.three c c_whole → KeepsRelay a_whole b b_whole c c_whole

-- and what each image has says what all that its node then ever had says, but for items that are gone
pub record KeepsAll (w : World) : Type 0 where
  pub word : KeepsWord w
  pub one : (image all : List Fact) → IsLeft w.one image all → Keeps image all
  pub two : (image all : List Fact) → IsLeft w.two image all → Keeps image all
  pub three : (image all : List Fact) → IsLeft w.three image all → Keeps image all

-- so it is in every world that a script leads to
abbrev pub EachRelayKeepsItsWord : Type 0
EachRelayKeepsItsWord =
    (terms : Terms) → AreTerms terms → AreThree terms → (events : List Event) → KeepsAll (run terms events start)
