-- What the definitions of the plain list mean, each law the contract of a function in src/laws.rt.
use Rattle.std.specs.Prelude.{◌≡◌, ◌≢◌, ℕ, List, [], ◌∷◌, ◌++◌, AllPairs, Any}
use Rattle.timers.specs.Slots.Waits.{Entry, Waiting, StandFor, IsLive, at_slot, without, moved_last, due_at, by_class}

-- where slots are distinct, the entry of a slot is one, and a move takes it from its place and puts it last
pub record OneEntryMoves : Type 0 where
  pub one : (before : List Entry) (entry : Entry) (after : List Entry) →
      AllPairs (λ one other. one.slot ≢ other.slot) (before ++ entry ∷ after) →
      at_slot entry.slot (before ++ entry ∷ after) ≡ entry ∷ []
  pub others : (before : List Entry) (entry : Entry) (after : List Entry) →
      AllPairs (λ one other. one.slot ≢ other.slot) (before ++ entry ∷ after) →
      without entry.slot (before ++ entry ∷ after) ≡ before ++ after
  pub moved : (change : Entry → Entry) (before : List Entry) (entry : Entry) (after : List Entry) →
      AllPairs (λ one other. one.slot ≢ other.slot) (before ++ entry ∷ after) →
      moved_last change entry.slot (before ++ entry ∷ after) ≡ (before ++ after) ++ change entry ∷ []

-- what is due reads nothing of the order between classes
abbrev pub DueIsSeenByClass : Type 0
DueIsSeenByClass =
    (now : ℕ) (waits others : List Entry) → by_class waits ≡ by_class others → due_at now waits ≡ due_at now others

-- a slot is live exactly where the plain list has an entry with it
pub record LiveIsWaiting : Type 0 where
  pub live : (timers : Waiting) (before : List Entry) (entry : Entry) (after : List Entry) →
      StandFor timers (before ++ entry ∷ after) → IsLive timers entry.slot
  pub waits : (timers : Waiting) (waits : List Entry) (slot : ℕ) → StandFor timers waits → IsLive timers slot →
      Any (λ entry. entry.slot ≡ slot) waits
