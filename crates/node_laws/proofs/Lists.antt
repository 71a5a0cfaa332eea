-- Lists and options all of whose items have a property, and what holds of all records that fit.
use Rattle.std.proofs.Common.{◌≡◌, ℕ, suc, ◌-◌, ◌==◌, true, false, cond, List, [], ◌∷◌, ◌++◌}
use Rattle.std.proofs.Common.{refl, sym, subst, append-nil, append_assoc, Option, Some, None}
use Prim.Native.Nat.{zero}
use Rattle.std.specs.Prelude.{IfSome, slice_get}
use Rattle.std.specs.List.{AllByRecursion, flat_map}
use Rattle.std.specs.Option.{option_to_list}
use Rattle.std.proofs.lemmas.Bool.{and_parts}
use Rattle.rm_base.specs.Numbered.{numbered}
use Rattle.record_batch.specs.Fact.{Fact}
use Rattle.record_batch.specs.Sequences.Words.{at_seq, first_or}
use Rattle.record_batch.specs.Sequences.Fits.{fits, all_fit}

pub All-weaker : {A : Type 0} (P Q : A → Type 0) → ((x : A) → P x → Q x) → (xs : List A) → AllByRecursion P xs
    → AllByRecursion Q xs
All-weaker P Q f [] h = tt
All-weaker P Q f (x ∷ xs) h = (f x h.0, All-weaker P Q f xs h.1)

pub All-append : {A : Type 0} (P : A → Type 0) (xs ys : List A) → AllByRecursion P xs → AllByRecursion P ys
    → AllByRecursion P (xs ++ ys)
All-append P [] ys h p = p
All-append P (x ∷ xs) ys h p = (h.0, All-append P xs ys h.1 p)

-- what is gathered item by item
pub All-flat_map : {A B : Type 0} (P : A → Type 0) (Q : B → Type 0) (f : A → List B)
    → ((x : A) → P x → AllByRecursion Q (f x)) → (xs : List A) → AllByRecursion P xs
    → AllByRecursion Q (flat_map f xs)
All-flat_map P Q f g [] h = tt
All-flat_map P Q f g (x ∷ xs) h = All-append Q (f x) (flat_map f xs) (g x h.0) (All-flat_map P Q f g xs h.1)

All-at : {A : Type 0} (P : A → Type 0) (xs : List A) (k : ℕ) → AllByRecursion P xs → IfSome (slice_get xs k) P
All-at P [] k h = tt
All-at P (x ∷ xs) zero h = h.0
All-at P (x ∷ xs) (suc k) h = All-at P xs k h.1

pub All-numbered : {A : Type 0} (P : A → Type 0) (xs : List A) (n : ℕ) → AllByRecursion P xs
    → IfSome (numbered xs n) P
All-numbered P xs n h =
    elim (n == 0) as (λ b. IfSome (cond b None (slice_get xs (n - 1))) P) [
      | true ↦ tt
      | false ↦ All-at P xs (n - 1) h
    ]

-- those of one sequence
pub All-at_seq : {A : Type 0} (P : A → Type 0) (s : ℕ) (xs : List (ℕ × A)) → AllByRecursion (λ (x : ℕ × A). P x.1) xs
    → AllByRecursion P (at_seq s xs)
All-at_seq P s [] h = tt
All-at_seq P s (x ∷ xs) h =
    let rest = All-at_seq P s xs h.1 in
    elim (x.0 == s) as (λ b. AllByRecursion P (cond b (x.1 ∷ at_seq s xs) (at_seq s xs))) [
      | true ↦ (h.0, rest)
      | false ↦ rest
    ]

pub first_or-has : {A : Type 0} (P : A → Type 0) (a : A) (xs : List A) → P a → AllByRecursion P xs → P (first_or a xs)
first_or-has P a [] h p = h
first_or-has P a (x ∷ xs) h p = p.0

pub to_list : {A : Type 0} (P : A → Type 0) (o : Option A) → IfSome o P → AllByRecursion P (option_to_list o)
to_list P None h = tt
to_list P (Some x) h = (h, tt)

-- ---- records that fit

pub all_fit-append : (r xs ys : List Fact) → all_fit r xs ≡ true → all_fit (r ++ xs) ys ≡ true
    → all_fit r (xs ++ ys) ≡ true
all_fit-append r [] ys h k = subst (λ z. all_fit z ys ≡ true) (append-nil r) k
all_fit-append r (x ∷ xs) ys h k =
    let parts = and_parts (fits r x) (all_fit (r ++ x ∷ []) xs) h in
    let same : r ++ x ∷ xs ≡ (r ++ x ∷ []) ++ xs = sym (append_assoc r (x ∷ []) xs) in
    let rest = all_fit-append (r ++ x ∷ []) xs ys parts.1 (subst (λ z. all_fit z ys ≡ true) same k) in
    rw (parts.0, rest) refl
