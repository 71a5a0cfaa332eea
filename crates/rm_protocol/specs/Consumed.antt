-- What applications were given and consumed, as a run goes on.
use Rattle.std.specs.Prelude.{ℕ, List, ◌++◌}
use Rattle.record_batch.specs.Fact.{Fact}
use Rattle.record_batch.specs.Sequences.Destinations.{released}
use Rattle.record_batch.specs.Sequences.Words.{Text}
use Rattle.rm_protocol.specs.Terms.{Terms, AreTerms}
use Rattle.rm_protocol.specs.Word.{IsPrefixOf, consumed}
use Rattle.rm_protocol.specs.World.{World, Side, Event, AreMade, node, run, start}

-- what was released of sequence t by the records b begins what was by d, and so does what its application consumed
pub record GoesOn (b d : List Fact) (t : ℕ) : Type 0 where
  pub released_ : IsPrefixOf (released b t) (released d t)
  pub consumed_ : IsPrefixOf (consumed b t) (consumed d t)

-- so it is with each sequence of either node, in one world and another
abbrev pub StaysConsumed : World → World → Type 0
StaysConsumed w v =
    (side : Side) (t : ℕ) → GoesOn (node w side).whole (node v side).whole t

-- so it is with each moment of a run, and each later one
abbrev pub ConsumedStays : Type 0
ConsumedStays =
    (terms : Terms) (one two : Text) → AreTerms terms → AreMade terms one two → (first second : List Event)
    → StaysConsumed (run terms first (start one two)) (run terms (first ++ second) (start one two))
