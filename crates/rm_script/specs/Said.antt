-- Scripts of any kind: lines, each of which says an event.
use Rattle.std.specs.Prelude.{◌≡◌, ℕ, ◌-◌, ◌<◌, List, [], ◌∷◌, slice_get, take, Some}

-- each line says its event
abbrev pub AreSaid : {E : Type 0} → (List ℕ → E → Type 0) → List (List ℕ) → List E → Type 0
AreSaid says [] [] = Unit {0}
AreSaid says [] (event ∷ events) = ⊥
AreSaid says (line ∷ lines) [] = ⊥
AreSaid says (line ∷ lines) (event ∷ events) = says line event × AreSaid says lines events

-- line k, counted from 1, says nothing that a script may say, and those before it are a script
pub record IsFirstUnsaid {E : Type 0} (says : List ℕ → E → Type 0) (lines : List (List ℕ)) (k : ℕ) : Type 0 where
  pub from_one : 0 < k
  pub before : List E
  pub script : AreSaid says (take (k - 1) lines) before
  pub line : List ℕ
  pub there : slice_get lines (k - 1) ≡ Some line
  pub bad : (event : E) → says line event → ⊥
