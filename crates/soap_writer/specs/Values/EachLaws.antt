-- Laws: reading each of a list, as a loop does.
use Rattle.std.proofs.Common.{◌≡◌, List, [], ◌∷◌, ◌++◌, ℕ, ◌+◌, ◌<◌, drop, get_or, length, map, Option, Some}
use Rattle.std.proofs.Common.{None, refl, sym, ap, ◌∙◌, append_assoc, arith}
use Rattle.std.specs.List.{AllByRecursion}
use Rattle.std.proofs.lemmas.List.{drop_more}
use Rattle.soap_writer.specs.Values.Outcome.{◌>>=◌, Fails, each}
use Rattle.soap_writer.specs.Values.Steps.{onto}
use Rattle.soap_writer.specs.declared.values.flaw.Flaw.{Flaw}
use Rattle.soap_writer.specs.declared.values.flaw.Flaw.TheVariants.{Memory, Malformed}

onto_more : {B : Type 0} (front : List B) (y : B) (later : Option (List B))
    → onto front (later >>= λ ys. Some (y ∷ ys)) ≡ onto (front ++ y ∷ []) later
onto_more front y (Some ys) = ap Some (sym (append_assoc front (y ∷ []) ys))
onto_more front y None = refl

-- one more was read, of elements that are seen by v
pub each_goes_on : {A B E : Type 0} (read : E → Option B) (v : A → E) (front : List B) (xs : List A) (i : ℕ) (x : A)
    (y : B)
    (total : Option (List B)) → i < length xs → x ≡ get_or xs i x → read (v x) ≡ Some y
    → onto front (each read (map v (drop i xs))) ≡ total
    → onto (front ++ y ∷ []) (each read (map v (drop (i + 1) xs))) ≡ total
each_goes_on read v front xs i x y total within is found so_far =
    let cut : drop i xs ≡ x ∷ drop (i + 1) xs = drop_more xs i x within ∙ ap (λ z. z ∷ drop (i + 1) xs) (sym is) in
    let one : each read (map v (drop i xs)) ≡ (each read (map v (drop (i + 1) xs)) >>= λ ys. Some (y ∷ ys)) =
    rw (cut, found) refl in
    sym (onto_more front y (each read (map v (drop (i + 1) xs)))) ∙ ap (onto front) (sym one) ∙ so_far

-- one could not be read
pub each_stops : {A B E : Type 0} (read : E → Option B) (v : A → E) (front : List B) (xs : List A) (i : ℕ) (x : A)
    (e : Flaw)
    (total : Option (List B)) → i < length xs → x ≡ get_or xs i x → Fails e (read (v x))
    → onto front (each read (map v (drop i xs))) ≡ total → Fails e total
each_stops read v front xs i x Memory total within is fails so_far = tt
each_stops read v front xs i x Malformed total within is fails so_far =
    let cut : drop i xs ≡ x ∷ drop (i + 1) xs = drop_more xs i x within ∙ ap (λ z. z ∷ drop (i + 1) xs) (sym is) in
    let one : onto front (each read (map v (drop i xs))) ≡ None = rw (cut, fails) refl in
    sym so_far ∙ one

-- what each is written as is read as they are
pub each_again : {A E : Type 0} (read : E → Option A) (tree : A → E) (xs : List A)
    → AllByRecursion (λ x. read (tree x) ≡ Some x) xs → each read (map tree xs) ≡ Some xs
each_again read tree [] all = refl
each_again read tree (x ∷ xs) all = rw (all.0, each_again read tree xs all.1) refl
