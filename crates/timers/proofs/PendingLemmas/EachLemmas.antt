-- What holds of each of a list, and of the list after a change.
use Rattle.std.proofs.Common.{ℕ, zero, suc, ◌<◌, List, [], ◌∷◌, ◌++◌, length, arith, get_or}
use Rattle.std.specs.Prelude.{drop, remove}
use Rattle.std.specs.List.{AllByRecursion}

pub each-at : {X : Type 0} (P : X → Type 0) (xs : List X) (at : ℕ) (d : X) → at < length xs → AllByRecursion P xs
    → P (get_or xs at d)
each-at P [] at d lt h = absurd (omega arith)
each-at P (x ∷ xs) zero d lt h = h.0
each-at P (x ∷ xs) (suc at) d lt h = each-at P xs at d (omega arith) h.1

pub each-append : {X : Type 0} (P : X → Type 0) (xs ys : List X) → AllByRecursion P xs → AllByRecursion P ys
    → AllByRecursion P (xs ++ ys)
each-append P [] ys h k = k
each-append P (x ∷ xs) ys h k = (h.0, each-append P xs ys h.1 k)

pub each-left : {X : Type 0} (P : X → Type 0) (xs ys : List X) → AllByRecursion P (xs ++ ys)
    → AllByRecursion P xs × AllByRecursion P ys
each-left P [] ys h = (tt, h)
each-left P (x ∷ xs) ys h = let rest = each-left P xs ys h.1 in ((h.0, rest.0), rest.1)

pub each-last : {X : Type 0} (P : X → Type 0) (xs : List X) (y : X) → AllByRecursion P xs → P y
    → AllByRecursion P (xs ++ y ∷ [])
each-last P xs y h k = each-append P xs (y ∷ []) h (k, tt)

pub each-remove : {X : Type 0} (P : X → Type 0) (xs : List X) (at : ℕ) → AllByRecursion P xs
    → AllByRecursion P (remove xs at)
each-remove P [] zero h = tt
each-remove P [] (suc at) h = tt
each-remove P (x ∷ xs) zero h = h.1
each-remove P (x ∷ xs) (suc at) h = (h.0, each-remove P xs at h.1)

pub each-drop : {X : Type 0} (P : X → Type 0) (xs : List X) (m : ℕ) → AllByRecursion P xs
    → AllByRecursion P (drop m xs)
each-drop P xs zero h = h
each-drop P [] (suc m) h = tt
each-drop P (x ∷ xs) (suc m) h = each-drop P xs m h.1
