-- Reading so many values one after the other, as a loop does.
use Rattle.std.proofs.Common.{◌≡◌, ℕ, suc, ◌+◌, ◌-◌, ◌<◌, ◌≤◌, List, [], ◌∷◌, ◌++◌, Option, Some, None, refl, sym}
use Rattle.std.proofs.Common.{ap, ◌∙◌, append_assoc, arith}
use Rattle.std.proofs.lemmas.List.{append-nil}
use Rattle.soap_writer.specs.declared.values.flaw.Flaw.{Flaw}
use Rattle.soap_writer.specs.declared.values.flaw.Flaw.TheVariants.{Memory, Malformed}
use Rattle.soap_writer.specs.Values.Outcome.{◌>>=◌, Fails}
use Rattle.record_batch.specs.Format.{Format, read_items}

-- what is read behind values that are there
abbrev pub with_front : {A : Type 0} → List A → Option (List A × List ℕ) → Option (List A × List ℕ)
with_front front read = read >>= λ x. Some (front ++ x.0, x.1)

regroup : {A : Type 0} (front : List A) (n : A) (read : Option (List A × List ℕ))
    → with_front front (read >>= λ x. Some (n ∷ x.0, x.1)) ≡ with_front (front ++ n ∷ []) read
regroup {A} front n (Some x) = ap (λ (ns : List A). Some (ns, x.1)) (sym (append_assoc front (n ∷ []) x.0))
regroup front n None = refl

step : {A : Type 0} (f : Format A) (front : List A) (n : ℕ) (bytes : List ℕ) (x : A) (after : List ℕ)
    → f.read bytes ≡ Some (x, after)
    → with_front front (read_items f (suc n) bytes) ≡ with_front (front ++ x ∷ []) (read_items f n after)
unfolding read_items
step f front n bytes x after h = rw h (regroup front x (read_items f n after))

-- one more value was read
pub goes_on : {A : Type 0} (f : Format A) (front : List A) (count i : ℕ) (bytes : List ℕ) (x : A) (after : List ℕ)
    (total : Option (List A × List ℕ)) → i < count → f.read bytes ≡ Some (x, after)
    → with_front front (read_items f (count - i) bytes) ≡ total
    → with_front (front ++ x ∷ []) (read_items f (count - (i + 1)) after) ≡ total
goes_on f front count i bytes x after total lt h so_far =
    let k : count - i ≡ suc (count - (i + 1)) = omega arith in
    let here = rw k at so_far in
    sym (step f front (count - (i + 1)) bytes x after h) ∙ here

none_first : {A : Type 0} (f : Format A) (front : List A) (n : ℕ) (bytes : List ℕ) → f.read bytes ≡ None
    → with_front front (read_items f (suc n) bytes) ≡ None
unfolding read_items
none_first f front n bytes h = rw h refl

-- the next one can't be read
pub stops : {A : Type 0} (f : Format A) (front : List A) (count i : ℕ) (bytes : List ℕ)
    (total : Option (List A × List ℕ)) → i < count → f.read bytes ≡ None
    → with_front front (read_items f (count - i) bytes) ≡ total → total ≡ None
stops f front count i bytes total lt h so_far =
    let k : count - i ≡ suc (count - (i + 1)) = omega arith in
    let here = rw k at so_far in
    sym here ∙ none_first f front (count - (i + 1)) bytes h

pub ends : {A : Type 0} (e : Flaw) (f : Format A) (front : List A) (count i : ℕ) (bytes : List ℕ)
    (total : Option (List A × List ℕ)) → i < count → Fails e (f.read bytes)
    → with_front front (read_items f (count - i) bytes) ≡ total → Fails e total
ends Memory f front count i bytes total lt h so_far = tt
ends Malformed f front count i bytes total lt h so_far = stops f front count i bytes total lt h so_far

none_left : {A : Type 0} (f : Format A) (front : List A) (bytes : List ℕ)
    → with_front front (read_items f 0 bytes) ≡ Some (front, bytes)
unfolding read_items
none_left {A} f front bytes = ap (λ (ns : List A). Some (ns, bytes)) (append-nil front)

-- all were read
pub is_done : {A : Type 0} (f : Format A) (front : List A) (count i : ℕ) (bytes : List ℕ)
    (total : Option (List A × List ℕ)) → count ≤ i → with_front front (read_items f (count - i) bytes) ≡ total
    → total ≡ Some (front, bytes)
is_done f front count i bytes total le so_far =
    let k : count - i ≡ 0 = omega arith in
    let here = rw k at so_far in
    sym here ∙ none_left f front bytes
