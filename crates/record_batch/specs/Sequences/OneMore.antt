-- What one more record changes of what a list of records says, each the contract of a function in src/laws.rt.
use Rattle.std.specs.Prelude.{◌≡◌, ◌≢◌, ℕ, ◌+◌, ◌≤◌, ◌&&◌, true, List, [], ◌∷◌, ◌++◌, length, map}
use Rattle.std.specs.List.{flat_map}
use Rattle.record_batch.specs.Fact.{Fact, Made}
use Rattle.record_batch.specs.Sequences.Makers.{makers, makers_of, draws_of, counter, number, addresses_of, created}
use Rattle.record_batch.specs.Sequences.Makers.{created_of}
use Rattle.record_batch.specs.Sequences.Fits.{fits, all_fit}
use Rattle.record_batch.specs.Sequences.Told.{Told, names, after, begun, told_all, each_after}

-- one record more changes each sequence by what it says of it, and adds those that it makes, as they begin
abbrev pub OneMoreRecord : Type 0
OneMoreRecord =
    (r : List Fact) (f : Fact) → all_fit [] r ≡ true → fits r f ≡ true
    → told_all (r ++ f ∷ []) ≡ each_after 0 (told_all r) f ++ map begun (makers_of f)

-- a record changes no sequence but the one that it names, and that one is there
pub record OnlyTheNamed : Type 0 where
  pub others : (s : ℕ) (t : Told) (f : Fact) → names f ≢ s → after s t f ≡ t
  pub there : (r : List Fact) (f : Fact) → fits r f ≡ true → names f ≤ length (makers r)

-- the number of a node that gets one more record
abbrev pub number_after : ℕ → Fact → ℕ
number_after n (Made node address) = node
number_after n _ = n

-- what one more record changes of the node itself
pub record OneMoreOfTheNode : Type 0 where
  pub makers_ : (r : List Fact) (f : Fact) → makers (r ++ f ∷ []) ≡ makers r ++ makers_of f
  pub counter_ : (r : List Fact) (f : Fact) → counter (r ++ f ∷ []) ≡ counter r + length (draws_of f)
  pub number_ : (r : List Fact) (f : Fact) → fits r f ≡ true → number (r ++ f ∷ []) ≡ number_after (number r) f
  pub addresses : (r : List Fact) (f : Fact) →
      flat_map addresses_of (r ++ f ∷ []) ≡ flat_map addresses_of r ++ addresses_of f
  pub created_ : (r : List Fact) (f : Fact) →
      created (r ++ f ∷ []) ≡ created r ++ created_of (length (makers r)) f
  pub fit : (r : List Fact) (f : Fact) → all_fit [] (r ++ f ∷ []) ≡ (all_fit [] r && fits r f)
