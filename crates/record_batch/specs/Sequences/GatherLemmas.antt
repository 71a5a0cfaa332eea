-- Lists that are gathered record by record, after one more record.
use Rattle.std.proofs.Common.{◌≡◌, ℕ, ◌+◌, ◌==◌, true, false, cond, List, [], ◌∷◌, ◌++◌, length}
use Rattle.std.proofs.Common.{refl, sym, ap, ◌∙◌, arith, Option, Some, max}
use Rattle.rm_base.specs.NumberSet.{greatest_of}
use Rattle.std.specs.List.{flat_map}
use Rattle.std.specs.Option.{option_or}
use Rattle.std.proofs.lemmas.Grind.{flat_map-append}
use Rattle.std.proofs.lemmas.List.{append-nil, append_assoc, length-append}
use Rattle.rm_sides.specs.declared.ranges.range.Range.{Range}
use Rattle.rm_sides.specs.Ranges.Changes.{with_range, united}
use Rattle.record_batch.specs.Fact.{Fact}
use Rattle.record_batch.specs.Sequences.Words.{Text, at_seq, last_or}
use Rattle.record_batch.specs.Sequences.Makers.{makers, makers_of, created_of, created_from, ident_in}
use Rattle.record_batch.specs.Sequences.Told.{last_onto}

pub flat_map-more : {X A : Type 0} (f : X → List A) (xs : List X) (x : X)
    → flat_map f (xs ++ x ∷ []) ≡ flat_map f xs ++ f x
flat_map-more f xs x = flat_map-append f xs (x ∷ []) ∙ ap (λ ys. flat_map f xs ++ ys) (append-nil (f x))

pub at_seq-append : {A : Type 0} (s : ℕ) (xs ys : List (ℕ × A)) → at_seq s (xs ++ ys) ≡ at_seq s xs ++ at_seq s ys
at_seq-append s [] ys = refl
at_seq-append s (x ∷ xs) ys =
    let rest = at_seq-append s xs ys in
    elim (x.0 == s) as (λ b. cond b (x.1 ∷ at_seq s (xs ++ ys)) (at_seq s (xs ++ ys))
    ≡ cond b (x.1 ∷ at_seq s xs) (at_seq s xs) ++ at_seq s ys) [
      | true ↦ ap (λ zs. x.1 ∷ zs) rest
      | false ↦ rest
    ]

-- what is gathered for one sequence, after one more record
pub at_seq-more : {X A : Type 0} (s : ℕ) (g : X → List (ℕ × A)) (xs : List X) (x : X)
    → at_seq s (flat_map g (xs ++ x ∷ [])) ≡ at_seq s (flat_map g xs) ++ at_seq s (g x)
at_seq-more s g xs x = ap (at_seq s) (flat_map-more g xs x) ∙ at_seq-append s (flat_map g xs) (g x)

pub last_or-append : {A : Type 0} (a : A) (xs ys : List A) → last_or a (xs ++ ys) ≡ last_or (last_or a xs) ys
last_or-append a [] ys = refl
last_or-append a (x ∷ xs) ys = last_or-append x xs ys

pub last_onto-append : {A : Type 0} (o : Option A) (xs ys : List A)
    → last_onto o (xs ++ ys) ≡ last_onto (last_onto o xs) ys
last_onto-append o [] ys = refl
last_onto-append o (x ∷ xs) ys = last_onto-append (Some x) xs ys

pub united-append : (xs ys zs : List Range) → united xs (ys ++ zs) ≡ united (united xs ys) zs
united-append xs [] zs = refl
united-append xs (y ∷ ys) zs = united-append (with_range xs y.lower y.upper) ys zs

pub ident_in-append : (xs ys : List (ℕ × Text)) (s : ℕ)
    → ident_in (xs ++ ys) s ≡ option_or (ident_in xs s) (ident_in ys s)
ident_in-append [] ys s = refl
ident_in-append (x ∷ xs) ys s =
    let rest = ident_in-append xs ys s in
    elim (x.0 == s) as (λ b. cond b (Some x.1) (ident_in (xs ++ ys) s)
    ≡ option_or (cond b (Some x.1) (ident_in xs s)) (ident_in ys s)) [
      | true ↦ refl
      | false ↦ rest
    ]

pub created_from-more : (k : ℕ) (r : List Fact) (f : Fact)
    → created_from k (r ++ f ∷ []) ≡ created_from k r ++ created_of (k + length (makers r)) f
created_from-more k [] f =
    let none : k + 0 ≡ k = omega arith in
    append-nil (created_of k f) ∙ ap (λ n. created_of n f) (sym none)
created_from-more k (x ∷ r) f =
    let rest = created_from-more (k + length (makers_of x)) r f in
    let count : k + length (makers (x ∷ r)) ≡ k + length (makers_of x) + length (makers r) =
    omega (arith, length-append (makers_of x) (makers r)) in
    ap (λ cs. created_of k x ++ cs) rest
    ∙ sym (append_assoc (created_of k x) (created_from (k + length (makers_of x)) r) _)
    ∙ ap (λ n. (created_of k x ++ created_from (k + length (makers_of x)) r) ++ created_of n f) (sym count)

pub greatest_of-append : (xs ys : List ℕ) → greatest_of (xs ++ ys) ≡ max (greatest_of xs) (greatest_of ys)
greatest_of-append [] ys = omega arith
greatest_of-append (x ∷ xs) ys = omega (arith, greatest_of-append xs ys)
