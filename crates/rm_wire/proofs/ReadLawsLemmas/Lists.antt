-- What holds of each of a list holds of what is picked from it and of what is read of it.
use Rattle.std.proofs.Common.{◌≡◌, Bool, List, [], ◌∷◌, ◌++◌, Option, Some, None, map, refl, subst}
use Rattle.std.specs.Prelude.{IfSome}
use Rattle.std.specs.List.{AllByRecursion, filter, flat_map}
use Rattle.std.proofs.lemmas.Bool.{cond_both}
use Rattle.soap_writer.specs.Values.Outcome.{◌>>=◌, optional, single, each, if_present}
use Rattle.wsa_headers.specs.Addressing.{first_of}

-- ---- picked

pub all_filter : {A : Type 0} (P : A → Type 0) (p : A → Bool) (xs : List A) → AllByRecursion P xs
    → AllByRecursion P (filter p xs)
all_filter P p [] all = tt
all_filter P p (x ∷ xs) all =
    cond_both (p x) (x ∷ filter p xs) (filter p xs) (AllByRecursion P) (λ e. (all.0, all_filter P p xs all.1))
    (λ e. all_filter P p xs all.1)

pub all_append : {A : Type 0} (P : A → Type 0) (xs ys : List A) → AllByRecursion P xs → AllByRecursion P ys
    → AllByRecursion P (xs ++ ys)
all_append P [] ys a b = b
all_append P (x ∷ xs) ys a b = (a.0, all_append P xs ys a.1 b)

pub all_map : {A B : Type 0} (Q : A → Type 0) (P : B → Type 0) (f : A → B) → ((x : A) → Q x → P (f x)) → (xs : List A)
    → AllByRecursion Q xs → AllByRecursion P (map f xs)
all_map Q P f step [] all = tt
all_map Q P f step (x ∷ xs) all = (step x all.0, all_map Q P f step xs all.1)

pub all_flat_map : {A B : Type 0} (Q : A → Type 0) (P : B → Type 0) (f : A → List B)
    → ((x : A) → Q x → AllByRecursion P (f x)) → (xs : List A) → AllByRecursion Q xs → AllByRecursion P (flat_map f xs)
all_flat_map Q P f step [] all = tt
all_flat_map Q P f step (x ∷ xs) all =
    all_append P (f x) (flat_map f xs) (step x all.0) (all_flat_map Q P f step xs all.1)

pub first_is : {A : Type 0} (P : A → Type 0) (xs : List A) (o : Option A) → first_of xs ≡ o → AllByRecursion P xs
    → IfSome o P
first_is P [] None e all = tt
first_is P [] (Some x) e all = cc
first_is P (y ∷ ys) None e all = tt
first_is P (y ∷ ys) (Some x) e all = let is : y ≡ x = cc in subst P is all.0

pub optional_is : {A : Type 0} (P : A → Type 0) (xs : List A) (o : Option A) → optional xs ≡ Some o
    → AllByRecursion P xs → IfSome o P
optional_is P xs None e all = tt
optional_is P [] (Some x) e all = cc
optional_is P (y ∷ []) (Some x) e all = let is : y ≡ x = cc in subst P is all.0
optional_is P (y ∷ z ∷ ys) (Some x) e all = cc

pub single_is : {A : Type 0} (P : A → Type 0) (xs : List A) (x : A) → single xs ≡ Some x → AllByRecursion P xs → P x
single_is P [] x e all = cc
single_is P (y ∷ []) x e all = let is : y ≡ x = cc in subst P is all.0
single_is P (y ∷ z ∷ ys) x e all = cc

-- ---- read

each_step : {B : Type 0} (P : B → Type 0) (o : Option B) (later : Option (List B)) (ys : List B)
    → (o >>= λ y. (later >>= λ more. Some (y ∷ more))) ≡ Some ys → ((y : B) → o ≡ Some y → P y)
    → ((more : List B) → later ≡ Some more → AllByRecursion P more) → AllByRecursion P ys
each_step P None later ys e here behind = cc
each_step P (Some y) None ys e here behind = cc
each_step P (Some y) (Some more) ys e here behind =
    let is : y ∷ more ≡ ys = cc in subst (AllByRecursion P) is (here y refl, behind more refl)

pub each_is : {A B : Type 0} (Q : A → Type 0) (P : B → Type 0) (read : A → Option B)
    → ((x : A) → Q x → (y : B) → read x ≡ Some y → P y) → (xs : List A) → AllByRecursion Q xs → (ys : List B)
    → each read xs ≡ Some ys → AllByRecursion P ys
each_is Q P read step [] all ys e = let is : [] ≡ ys = cc in subst (AllByRecursion P) is tt
each_is Q P read step (x ∷ xs) all ys e =
    each_step P (read x) (each read xs) ys e (step x all.0) (each_is Q P read step xs all.1)

present_at : {B : Type 0} (P : B → Type 0) (o : Option B) (r : Option B) → (o >>= λ y. Some (Some y)) ≡ Some r
    → ((y : B) → o ≡ Some y → P y) → IfSome r P
present_at P None r e step = cc
present_at P (Some y) None e step = tt
present_at P (Some y) (Some z) e step = let is : y ≡ z = cc in subst P is (step y refl)

pub present_is : {A B : Type 0} (Q : A → Type 0) (P : B → Type 0) (read : A → Option B)
    → ((x : A) → Q x → (y : B) → read x ≡ Some y → P y) → (o : Option A) → IfSome o Q → (r : Option B)
    → if_present read o ≡ Some r → IfSome r P
present_is Q P read step None is None e = tt
present_is Q P read step None is (Some y) e = cc
present_is Q P read step (Some x) is r e = present_at P (read x) r e (step x is)

-- one that may stand there once, and what is read of it
pub found_is : {A B : Type 0} (Q : A → Type 0) (P : B → Type 0) (read : A → Option B)
    → ((x : A) → Q x → (y : B) → read x ≡ Some y → P y) → (xs : List A) → AllByRecursion Q xs
    → (o : Option (Option A)) → optional xs ≡ o → (r : Option B)
    → (o >>= λ found. if_present read found) ≡ Some r → IfSome r P
found_is Q P read step xs all None d r e = cc
found_is Q P read step xs all (Some found) d r e =
    present_is Q P read step found (optional_is Q xs found d all) r e
