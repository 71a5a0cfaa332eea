-- A list of entries as the bytes of a journal: a head, a selector and two starts. From the start that counts on, an
-- open gate with each entry, and a closed gate.
use Rattle.std.specs.Prelude.{◌≡◌, ◌≢◌, ◌⊎◌, ◌≤◌, ◌==◌, ◌%◌, ℕ, ◌+◌, Bool, false, if◌then◌else◌, List, [], ◌∷◌, ◌++◌}
use Rattle.std.specs.Prelude.{length, take, drop, slice_index, codes, All}
use Rattle.std.specs.List.{flat_map}
use Rattle.std.specs.Int.{w32, w64, to_be_bytes, from_be_bytes}
use Rattle.rm_base.specs.Limits as limits

-- the greatest length of an entry
abbrev pub longest : ℕ
longest = limits.entry_bytes

-- what a journal begins with
abbrev pub head : List ℕ
head = codes "WSRMJNL2"

-- an open gate, the entry's length as a big-endian u32, and the entry
abbrev pub block : List ℕ → List ℕ
block entry = 1 ∷ (to_be_bytes w32 (length entry) ++ entry)

-- a list as it is written: its entries and a closed gate
abbrev pub list_of : List (List ℕ) → List ℕ
list_of entries = flat_map block entries ++ 0 ∷ []

-- each entry is short enough
abbrev pub AllFit : List (List ℕ) → Type 0
AllFit entries = All (λ entry. length entry ≤ longest) entries

-- The bytes begin with these entries and a gate that isn't open; what follows that means nothing.
pub record EndsBlocks (entries : List (List ℕ)) (bytes : List ℕ) : Type 0 where
  pub fit : AllFit entries
  pub gate : ℕ
  pub behind : List ℕ
  pub closed : gate ≢ 1
  pub is : bytes ≡ flat_map block entries ++ gate ∷ behind

-- Where a list stands: which of the two starts counts, and that start.
pub record Bank : Type 0 where
  pub second : Bool
  pub start : ℕ

-- where `format` puts the empty list
abbrev pub first_bank : Bank
first_bank = record { second = false; start = 25 }

-- an odd selector has the second start count
abbrev pub is_odd : ℕ → Bool
is_odd selector = (selector % 2) == 1

-- the place of a start
abbrev pub slot_of : Bool → ℕ
slot_of second = if second then 17 else 9

-- the head, a selector for this bank, and its start
pub record IsFront (bank : Bank) (bytes : List ℕ) : Type 0 where
  pub begins : take 8 bytes ≡ head
  pub selector : is_odd (slice_index bytes 8) ≡ bank.second
  pub counts : from_be_bytes w64 (take 8 (drop (slot_of bank.second) bytes)) ≡ bank.start
  pub behind : 25 ≤ bank.start

-- the bytes stand for these entries in this bank
pub record StandsAt (bank : Bank) (entries : List (List ℕ)) (bytes : List ℕ) : Type 0 where
  pub front : IsFront bank bytes
  pub ends : EndsBlocks entries (drop bank.start bytes)

-- in either
pub record StandsFor (entries : List (List ℕ)) (bytes : List ℕ) : Type 0 where
  pub bank : Bank
  pub stands : StandsAt bank entries bytes

-- the entries, or these with one more
abbrev pub StandsForEither : Bank → List (List ℕ) → List ℕ → List ℕ → Type 0
StandsForEither bank entries entry bytes = StandsAt bank entries bytes ⊎ StandsAt bank (entries ++ entry ∷ []) bytes

-- the entries where they stood, or the fresh ones where they are put
abbrev pub StandsForOneOf : Bank → List (List ℕ) → Bank → List (List ℕ) → List ℕ → Type 0
StandsForOneOf bank entries next fresh bytes = StandsAt bank entries bytes ⊎ StandsAt next fresh bytes

-- the front of the first bank: the head, the selector 0, and both starts
abbrev pub first_front : List ℕ
first_front = head ++ 0 ∷ to_be_bytes w64 25 ++ to_be_bytes w64 25

-- a disk with these entries in the first bank, and nothing behind them
abbrev pub bytes_of : List (List ℕ) → List ℕ
bytes_of entries = first_front ++ list_of entries

-- a disk as `format` leaves it
abbrev pub first_bytes : List ℕ
first_bytes = bytes_of []

-- bytes stand for these entries by the layout before this one: a head of 8 bytes, and then the list
pub record StandsAsBefore (entries : List (List ℕ)) (bytes : List ℕ) : Type 0 where
  pub begins : take 8 bytes ≡ codes "WSRMJNL1"
  pub ends : EndsBlocks entries (drop 8 bytes)

-- the place of the gate behind each entry, where the first block begins at this place
abbrev pub gates_from : ℕ → List (List ℕ) → List ℕ
gates_from at [] = []
gates_from at (entry ∷ entries) = let next = at + 5 + length entry in next ∷ gates_from next entries

-- the place of the first byte of an entry, counted from 0: five places behind the gate before it
abbrev pub first_of : ℕ → List ℕ → ℕ → ℕ
first_of start gates k = slice_index (start ∷ gates) k + 5
