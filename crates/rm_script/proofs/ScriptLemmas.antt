-- A script is read in one way.
use Rattle.std.proofs.Common.{◌≡◌, ℕ, List, [], ◌∷◌, refl}
use Rattle.rm_script.specs.declared.event.Event.{Event}
use Rattle.rm_script.specs.Script.{IsScript}
use Rattle.rm_script.proofs.ReadingLemmas.{Says-one}

-- a script is read in one way
pub IsScript-one : (lines : List (List ℕ)) (a b : List Event) → IsScript lines a → IsScript lines b → a ≡ b
IsScript-one [] [] [] s t = refl
IsScript-one [] [] (y ∷ b) s t = absurd t
IsScript-one [] (x ∷ a) b s t = absurd s
IsScript-one (l ∷ lines) [] b s t = absurd s
IsScript-one (l ∷ lines) (x ∷ a) [] s t = absurd t
IsScript-one (l ∷ lines) (x ∷ a) (y ∷ b) s t =
    let head : x ≡ y = Says-one l x y s.0 t.0 in
    let tail : a ≡ b = IsScript-one lines a b s.1 t.1 in cc
