-- The element of a list at a place.
use Rattle.std.proofs.Common.{◌≡◌, List, [], ◌∷◌, ◌++◌, length, refl, slice_get, Some}

pub slice_get-at : {A : Type 0} (before : List A) (x : A) (rest : List A)
    → slice_get (before ++ x ∷ rest) (length before) ≡ Some x
slice_get-at [] x rest = refl
slice_get-at (y ∷ before) x rest = slice_get-at before x rest
