-- What holds of each record of a batch, as a loop over them finds it.
use Rattle.std.proofs.Common.{◌≡◌, ℕ, suc, ◌<◌, List, [], ◌∷◌, length, get_or, map, drop, sym}
use Rattle.std.proofs.Common.{subst, arith}
use Prim.Native.Nat.{zero}
use Rattle.std.specs.Prelude.{◌↔◌}
use Rattle.std.specs.List.{AllByRecursion}

-- the one at a place
pub each-at : {A B : Type 0} (P : B → Type 0) (view : A → B) (xs : List A) (i : ℕ) (x : A)
    → AllByRecursion P (map view xs) → i < length xs → x ≡ get_or xs i x → P (view x)
each-at P view [] i x h lt e = absurd (omega (arith, lt))
each-at {A} P view (y ∷ ys) zero x h lt e = subst (λ (z : A). P (view z)) (sym e) h.0
each-at P view (y ∷ ys) (suc i) x h lt e = each-at P view ys i x h.1 (omega (arith, lt)) e

-- whether it holds of those from a place on decides
abbrev pub LeftDecide : {A B : Type 0} → (B → Type 0) → (A → B) → List A → ℕ → Type 0
LeftDecide P view xs i = AllByRecursion P (map view (drop i xs)) ↔ AllByRecursion P (map view xs)
