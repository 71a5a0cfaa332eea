-- Tests of fields, one field more.
use Rattle.std.proofs.Common.{◌≡◌, ℕ, ◌<◌, ◌+◌, Bool, true, false, List, [], ◌∷◌, ◌++◌, length, map, take, get_or, ap}
use Rattle.std.proofs.Common.{◌∙◌, refl, ◌&&◌, ◌||◌}
use Rattle.std.specs.List.{list_all, list_any}
use Rattle.std.proofs.lemmas.List.{take_more}
use Rattle.std.proofs.lemmas.List.Folds.{list_all-append, list_any-append}

or_false : (b : Bool) → (b || false) ≡ b
or_false true = refl
or_false false = refl

and_true : (b : Bool) → (b && true) ≡ b
and_true true = refl
and_true false = refl

map-one : {X Y : Type 0} (f : X → Y) (xs : List X) (x : X) → map f (xs ++ x ∷ []) ≡ map f xs ++ f x ∷ []
map-one f [] x = refl
map-one f (y ∷ xs) x = ap (λ l. f y ∷ l) (map-one f xs x)

-- one element more passes or not
pub any-more : {X Y : Type 0} (p : Y → Bool) (f : X → Y) (xs : List X) (i : ℕ) (x : X) → i < length xs
    → list_any p (map f (take (i + 1) xs)) ≡ (list_any p (map f (take i xs)) || p (f (get_or xs i x)))
any-more p f xs i x inside =
    ap (λ l. list_any p (map f l)) (take_more xs i x inside) ∙ (ap (list_any p) (map-one f (take i xs) (get_or xs i x))
    ∙ (list_any-append p (map f (take i xs)) (f (get_or xs i x) ∷ [])
    ∙ ap (λ b. list_any p (map f (take i xs)) || b) (or_false (p (f (get_or xs i x))))))

pub all-more : {X Y : Type 0} (p : Y → Bool) (f : X → Y) (xs : List X) (i : ℕ) (x : X) → i < length xs
    → list_all p (map f (take (i + 1) xs)) ≡ (list_all p (map f (take i xs)) && p (f (get_or xs i x)))
all-more p f xs i x inside =
    ap (λ l. list_all p (map f l)) (take_more xs i x inside) ∙ (ap (list_all p) (map-one f (take i xs) (get_or xs i x))
    ∙ (list_all-append p (map f (take i xs)) (f (get_or xs i x) ∷ [])
    ∙ ap (λ b. list_all p (map f (take i xs)) && b) (and_true (p (f (get_or xs i x))))))
