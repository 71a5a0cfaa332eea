-- Timers beside a plain program, each of whose entries is live in the timers.
use Rattle.std.specs.Prelude.{◌≡◌, ℕ, ◌⊎◌, List, [], ◌∷◌, All}
use Rattle.timers.specs.Slots.Waits.{Entry, Waiting, StandFor}
use Rattle.base_tests.specs.declared.plain.Plain.{Plain}

-- an entry of the list has the slot
abbrev pub HasSlot : ℕ → List Entry → Type 0
HasSlot slot [] = ⊥
HasSlot slot (entry ∷ waits) = (entry.slot ≡ slot) ⊎ HasSlot slot waits

-- the timers stand for a list that has the slot of each plain entry
pub record AreTwins (timers : Waiting) (plain : List Plain) : Type 0 where
  pub waits : List Entry
  pub stands : StandFor timers waits
  pub live : All (λ p. HasSlot p.slot waits) plain
