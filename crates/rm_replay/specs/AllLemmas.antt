-- What holds of each element of a list, and lists that begin with others.
use Rattle.std.proofs.Common.{◌≡◌, ◌∙◌, ℕ, zero, suc, List, ◌∷◌, ◌++◌, append_assoc, take, slice_get, ap, subst, []}
use Rattle.std.proofs.Common.{Some}
use Rattle.std.specs.List.{AllByRecursion}
use Rattle.rm_protocol.specs.Word.{IsPrefixOf}

pub all_push : {A : Type 0} (P : A → Type 0) (xs : List A) (x : A) → AllByRecursion P xs → P x
    → AllByRecursion P (xs ++ x ∷ [])
all_push P [] x all h = (h, tt)
all_push P (y ∷ xs) x all h = (all.0, all_push P xs x all.1 h)

pub all_append : {A : Type 0} (P : A → Type 0) (xs ys : List A) → AllByRecursion P xs → AllByRecursion P ys
    → AllByRecursion P (xs ++ ys)
all_append P [] ys one two = two
all_append P (x ∷ xs) ys one two = (one.0, all_append P xs ys one.1 two)

pub all_parts : {A : Type 0} (P : A → Type 0) (xs ys : List A) → AllByRecursion P (xs ++ ys)
    → AllByRecursion P xs × AllByRecursion P ys
all_parts P [] ys all = (tt, all)
all_parts P (x ∷ xs) ys all = let rest = all_parts P xs ys all.1 in ((all.0, rest.0), rest.1)

pub all_take : {A : Type 0} (P : A → Type 0) (xs : List A) (count : ℕ) → AllByRecursion P xs
    → AllByRecursion P (take count xs)
all_take P [] zero all = tt
all_take P [] (suc count) all = tt
all_take P (x ∷ xs) zero all = tt
all_take P (x ∷ xs) (suc count) all = (all.0, all_take P xs count all.1)

pub some_same : {A : Type 0} (y x : A) → Some y ≡ Some x → y ≡ x
some_same y x e = cc

-- one of them
pub all_get : {A : Type 0} (P : A → Type 0) (xs : List A) (k : ℕ) (x : A) → AllByRecursion P xs
    → slice_get xs k ≡ Some x → P x
all_get P [] k x all is = absurd cc
all_get P (y ∷ xs) zero x all is = let e : Some y ≡ Some x = is in subst P (some_same y x e) all.0
all_get P (y ∷ xs) (suc k) x all is = all_get P xs k x all.1 is

-- one behind another
pub prefix_then : {A : Type 0} (xs ys zs : List A) → IsPrefixOf xs ys → IsPrefixOf ys zs → IsPrefixOf xs zs
prefix_then xs ys zs one two = (
  one.0 ++ two.0,
  two.1 ∙ ap (λ front. front ++ two.0) one.1 ∙ append_assoc xs one.0 two.0,
)
