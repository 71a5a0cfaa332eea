-- Members of lists: where they stand, and that they stay in longer lists.
use Rattle.std.proofs.Common.{◌≡◌, ℕ, zero, suc, ◌-◌, ◌<◌, ◌≤◌, ◌==◌, Bool, true, false, cond, List, [], ◌∷◌, ◌++◌}
use Rattle.std.proofs.Common.{length, map, filter, refl, sym, ap, ◌∙◌, subst, arith, append-nil, append_assoc}
use Rattle.std.specs.Prelude.{Some, slice_get}
use Rattle.std.specs.List.{AllByRecursion}
use Rattle.std.proofs.lemmas.Bool.Decides.{nat_tests}
use Rattle.std.proofs.lemmas.List.{map-append}
use Rattle.rm_base.specs.Numbered.{numbered}
use Rattle.rm_protocol.specs.Word.{IsPrefixOf}

-- x stands in the list
pub record IsIn {A : Type 0} (xs : List A) (x : A) : Type 0 where
  pub before : List A
  pub behind : List A
  pub are : xs ≡ before ++ x ∷ behind

abbrev pub in-behind : {A : Type 0} (xs ys : List A) (x : A) → IsIn ys x → IsIn (xs ++ ys) x
in-behind xs ys x h = record {
  before = xs ++ h.before;
  behind = h.behind;
  are = ap (λ z. xs ++ z) h.are ∙ sym (append_assoc xs h.before (x ∷ h.behind));
}

pub filter-join : {A : Type 0} (f : A → Bool) (xs ys : List A) → filter f (xs ++ ys) ≡ filter f xs ++ filter f ys
filter-join f [] ys = refl
filter-join f (x ∷ xs) ys =
    let rest : filter f (xs ++ ys) ≡ filter f xs ++ filter f ys = filter-join f xs ys in
    elim (f x) as (λ b. cond b (x ∷ filter f (xs ++ ys)) (filter f (xs ++ ys))
    ≡ cond b (x ∷ filter f xs) (filter f xs) ++ filter f ys) [
      | true ↦ ap (λ zs. x ∷ zs) rest
      | false ↦ rest
    ]

pub in-filter : {A : Type 0} (f : A → Bool) (xs : List A) (x : A) → f x ≡ true → IsIn xs x → IsIn (filter f xs) x
in-filter f xs x passes h = record {
  before = filter f h.before;
  behind = filter f h.behind;
  are = ap (λ z. filter f z) h.are ∙ filter-join f h.before (x ∷ h.behind)
      ∙ ap (λ b. filter f h.before ++ cond b (x ∷ filter f h.behind) (filter f h.behind)) passes;
}

pub in-map : {A B : Type 0} (g : A → B) (xs : List A) (x : A) → IsIn xs x → IsIn (map g xs) (g x)
in-map g xs x h = record {
  before = map g h.before;
  behind = map g h.behind;
  are = ap (λ z. map g z) h.are ∙ map-append g h.before (x ∷ h.behind);
}

-- ---- by number

pub numbered-next : {A : Type 0} (xs : List A) (n : ℕ) → numbered xs (suc n) ≡ slice_get xs n
numbered-next xs n =
    let other : (suc n == 0) ≡ false = grind (arith, nat_tests) in
    let place : suc n - 1 ≡ n = omega arith in
    rw (other, place) refl

slice_get-at : {A : Type 0} (before : List A) (x : A) (behind : List A)
    → slice_get (before ++ x ∷ behind) (length before) ≡ Some x
slice_get-at [] x behind = refl
slice_get-at (y ∷ before) x behind = slice_get-at before x behind

pub numbered-in : {A : Type 0} (xs : List A) (x : A) (h : IsIn xs x) → numbered xs (suc (length h.before)) ≡ Some x
numbered-in xs x h =
    numbered-next xs (length h.before) ∙ ap (λ z. slice_get z (length h.before)) h.are
    ∙ slice_get-at h.before x h.behind

slice_get-longer : {A : Type 0} (xs ys : List A) (k : ℕ) (x : A) → slice_get xs k ≡ Some x
    → slice_get (xs ++ ys) k ≡ Some x
slice_get-longer [] ys k x e = absurd (cc)
slice_get-longer (y ∷ xs) ys zero x e = e
slice_get-longer (y ∷ xs) ys (suc k) x e = slice_get-longer xs ys k x e

pub numbered-longer : {A : Type 0} (xs ys : List A) (n : ℕ) (x : A) → numbered xs n ≡ Some x
    → numbered (xs ++ ys) n ≡ Some x
numbered-longer xs ys zero x e = absurd (cc)
numbered-longer xs ys (suc n) x e =
    numbered-next (xs ++ ys) n ∙ slice_get-longer xs ys n x (sym (numbered-next xs n) ∙ e)

slice_get-shorter : {A : Type 0} (xs ys : List A) (k : ℕ) (x : A) → slice_get (xs ++ ys) k ≡ Some x → k < length xs
    → slice_get xs k ≡ Some x
slice_get-shorter [] ys k x e lt = absurd (omega (arith, lt))
slice_get-shorter (y ∷ xs) ys zero x e lt = e
slice_get-shorter (y ∷ xs) ys (suc k) x e lt = slice_get-shorter xs ys k x e (omega (arith, lt))

pub numbered-shorter : {A : Type 0} (xs ys : List A) (n : ℕ) (x : A) → numbered (xs ++ ys) n ≡ Some x → n ≤ length xs
    → numbered xs n ≡ Some x
numbered-shorter xs ys zero x e le = absurd (cc)
numbered-shorter xs ys (suc n) x e le =
    numbered-next xs n ∙ slice_get-shorter xs ys n x (sym (numbered-next (xs ++ ys) n) ∙ e) (omega (arith, le))

slice_get-within : {A : Type 0} (xs : List A) (k : ℕ) (x : A) → slice_get xs k ≡ Some x → k < length xs
slice_get-within [] k x e = absurd (cc)
slice_get-within (y ∷ xs) zero x e = omega arith
slice_get-within (y ∷ xs) (suc k) x e =
    let rest : k < length xs = slice_get-within xs k x e in omega (arith, rest)

pub numbered-within : {A : Type 0} (xs : List A) (n : ℕ) (x : A) → numbered xs n ≡ Some x → n ≤ length xs
numbered-within xs zero x e = absurd (cc)
numbered-within xs (suc n) x e =
    let there : n < length xs = slice_get-within xs n x (sym (numbered-next xs n) ∙ e) in omega (arith, there)

pub all-at : {A : Type 0} (P : A → Type 0) (xs : List A) (k : ℕ) (x : A) → AllByRecursion P xs → slice_get xs k ≡ Some x
    → P x
all-at P [] k x h e = absurd (cc)
all-at P (y ∷ ys) zero x h e = let same : y ≡ x = cc in subst P same h.0
all-at P (y ∷ ys) (suc k) x h e = all-at P ys k x h.1 e

pub all-numbered : {A : Type 0} (P : A → Type 0) (xs : List A) (n : ℕ) (x : A) → AllByRecursion P xs
    → numbered xs n ≡ Some x → P x
all-numbered P xs zero x h e = absurd (cc)
all-numbered P xs (suc n) x h e = all-at P xs n x h (sym (numbered-next xs n) ∙ e)

-- ---- lists that begin with others

pub prefix-refl : {A : Type 0} (xs : List A) → IsPrefixOf xs xs
prefix-refl xs = ([], sym (append-nil xs))

pub prefix-then : {A : Type 0} (xs ys zs : List A) → IsPrefixOf xs ys → IsPrefixOf ys zs → IsPrefixOf xs zs
prefix-then xs ys zs h k = (h.0 ++ k.0, k.1 ∙ ap (λ z. z ++ k.0) h.1 ∙ append_assoc xs h.0 k.0)

pub all-front : {A : Type 0} (P : A → Type 0) (xs ys : List A) → AllByRecursion P (xs ++ ys) → AllByRecursion P xs
all-front P [] ys h = tt
all-front P (x ∷ xs) ys h = (h.0, all-front P xs ys h.1)

pub all-back : {A : Type 0} (P : A → Type 0) (xs ys : List A) → AllByRecursion P (xs ++ ys) → AllByRecursion P ys
all-back P [] ys h = h
all-back P (x ∷ xs) ys h = all-back P xs ys h.1
