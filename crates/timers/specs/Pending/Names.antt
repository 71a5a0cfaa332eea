-- How queues have their addresses: the first numbers in an order of all queues are those of the addresses. No public
-- clause cites this module.
use Rattle.std.specs.Prelude.{◌≡◌, ◌≢◌, ℕ, zero, suc, ◌≤◌, ◌<◌, if◌then◌else◌, List, [], ◌∷◌, ◌++◌, length, drop}
use Rattle.std.specs.Prelude.{remove, Bool, false, Option, Some, None, slice_index_or}
use Rattle.std.specs.List.{AllByRecursion}
use Rattle.std.specs.Str.{bytes_eq}
use Rattle.timers.specs.Pending.Limits.{most_addresses}
use Rattle.timers.specs.Pending.Table.{queue_at}
use Rattle.timers.specs.Pending.Waiting.{Queue}

-- the queues that have an address, each by its number
abbrev pub named : {T : Type 0} → List (List ℕ) → List ℕ → List (List T) → List (Queue T)
named [] order qs = []
named (a ∷ more) [] qs = []
named (a ∷ more) (l ∷ order) qs = record { address = a; packets = queue_at qs l } ∷ named more order qs

-- the place of an address, or behind all
abbrev pub place_in : List (List ℕ) → List ℕ → ℕ
place_in [] address = 0
place_in (a ∷ more) address = if bytes_eq a address then 0 else suc (place_in more address)

-- the first n numbers
abbrev pub numbers : ℕ → List ℕ
numbers zero = []
numbers (suc n) = numbers n ++ n ∷ []

-- the number at a place
abbrev pub number_at : List ℕ → ℕ → ℕ
number_at order at = slice_index_or order at 0

-- with the address, behind the others where it isn't among them
abbrev pub opened : List (List ℕ) → List ℕ → List (List ℕ)
opened [] address = address ∷ []
opened (a ∷ more) address = if bytes_eq a address then a ∷ more else a ∷ opened more address

-- whether there are more than what was taken
abbrev pub more_of : {T : Type 0} → Option (T × Bool) → Bool
more_of None = false
more_of (Some taken) = taken.1

-- the number at a place goes behind all
abbrev pub moved_last : List ℕ → ℕ → List ℕ
moved_last order at = remove order at ++ number_at order at ∷ []

-- the addresses where the queue at a place has more packets, or hasn't
abbrev pub kept_addresses : List (List ℕ) → ℕ → Bool → List (List ℕ)
kept_addresses addresses at more = if more then addresses else remove addresses at

-- the numbers likewise
abbrev pub kept_order : List ℕ → ℕ → Bool → List ℕ
kept_order order at more = if more then order else moved_last order at

-- none of these
abbrev pub NotIn : ℕ → List ℕ → Type 0
NotIn l order = AllByRecursion (λ k. l ≢ k) order

-- all numbers differ
abbrev pub Distinct : List ℕ → Type 0
Distinct [] = Unit {0}
Distinct (l ∷ order) = NotIn l order × Distinct order

-- their queues are empty
abbrev pub Empty : {T : Type 0} → List (List T) → List ℕ → Type 0
Empty qs order = AllByRecursion (λ l. queue_at qs l ≡ []) order

-- the order has the number of each queue once, and the queues behind those of the addresses are empty
pub record IsNamed {T : Type 0} (addresses : List (List ℕ)) (order : List ℕ) (qs : List (List T)) (room places : ℕ)
    : Type 0 where
  pub many : length addresses ≤ most_addresses
  pub all : length order ≡ most_addresses
  pub low : AllByRecursion (λ l. l < most_addresses) order
  pub distinct : Distinct order
  pub empty : Empty qs (drop (length addresses) order)
  pub queues : length qs ≡ most_addresses
  pub room_ : most_addresses ≤ room
  pub places_ : most_addresses ≤ places
