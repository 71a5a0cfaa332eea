-- Laws of what a destination releases, each the contract of a function in src/laws.rt.
use Rattle.std.specs.Prelude.{◌≡◌, ℕ, ◌+◌, ◌<◌, ◌≤◌, ◌⊎◌, true, false, List, [], ◌++◌, Some, Contains}
use Rattle.rm_base.specs.NumberSet.{has_number}
use Rattle.rm_base.specs.Numbered.{numbered}
use Rattle.rm_base.specs.declared.message.Behaviour.TheVariants.{EntireSequence}
use Rattle.rm_sides.specs.Destination.Incoming.{Receiving, items, is_loose, is_stopped, inbox, discarded}
use Rattle.rm_sides.specs.Destination.Messages.{Item, by_number, without_gap, numbers_of, contents_of, front_of}

-- each number from 1 to m is among the numbers, and the next one is not
pub record IsFront (numbers : List ℕ) (m : ℕ) : Type 0 where
  pub all : (n : ℕ) → 0 < n → n ≤ m → has_number numbers n ≡ true
  pub ends : has_number numbers (m + 1) ≡ false

-- all numbers up to the front came, and the next one did not
abbrev pub FrontIsReached : Type 0
FrontIsReached =
    (came : List (ℕ × Item)) → has_number (numbers_of came) 0 ≡ false → IsFront (numbers_of came) (front_of came)

-- what stands at a place up to the first gap came with the number of that place
abbrev pub PlaceIsNumber : Type 0
PlaceIsNumber =
    (came : List (ℕ × Item)) (i : ℕ) (p : Item) → numbered (without_gap 0 (by_number came)) i ≡ Some p →
    Contains came (i, p)

-- the inbox of an ordered sequence is what came up to the first gap, or nothing; under DiscardEntireSequence it is all
-- that came, or nothing
pub record InboxIsAPrefix (f : Receiving) : Type 0 where
  pub prefix : (inbox f ≡ without_gap 0 (by_number (items f))) ⊎ (inbox f ≡ [])
  pub entire : f.behaviour ≡ EntireSequence →
      (inbox f ≡ contents_of (by_number (items f))) ⊎ (inbox f ≡ [])

-- once an ordered sequence was closed or ended, all that came is in the inbox or discarded
abbrev pub NothingIsLost : Type 0
NothingIsLost =
    (f : Receiving) → is_loose f.behaviour ≡ false → is_stopped f.closes ≡ true →
    inbox f ++ discarded f ≡ contents_of (by_number (items f))

-- a loose sequence releases all that came, in the order in which it came, and discards nothing
pub record LooseReleasesAll (f : Receiving) : Type 0 where
  pub inbox_ : inbox f ≡ contents_of (items f)
  pub discarded_ : discarded f ≡ []
