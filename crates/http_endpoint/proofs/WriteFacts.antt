-- Texts that are written in pieces.
use Rattle.std.proofs.Common.{◌≡◌, ℕ, ◌+◌, List, ◌++◌, length, take, ap, ◌∙◌, append_assoc, arith, Option, None, Some}
use Rattle.std.proofs.Common.{Result, Ok, Err}
use Rattle.std.specs.Prelude.{OnErr}
use Rattle.std.specs.Io.KnownBytes.{Appends}
use Rattle.std.proofs.Math.Seq.{take-append-add}
use Rattle.std.proofs.lemmas.List.{length-append}
use Rattle.rm_base.specs.Outside.{AppendsFront}

-- one piece behind another
pub appends-both : (old mid new : Option (List ℕ)) (a b : List ℕ) → Appends old mid a → Appends mid new b
    → Appends old new (a ++ b)
appends-both None mid new a b x y = tt
appends-both (Some o) None new a b x y = absurd x
appends-both (Some o) (Some m) None a b x y = absurd y
appends-both (Some o) (Some m) (Some n) a b x y = y ∙ (ap (λ l. l ++ b) x ∙ append_assoc o a b)

-- a front of a piece behind another
pub appends-front : (old mid new : Option (List ℕ)) (a b : List ℕ) → Appends old mid a → AppendsFront mid new b
    → AppendsFront old new (a ++ b)
appends-front old mid new a b x y =
    let both : Appends old new (a ++ take y.0 b) = appends-both old mid new a (take y.0 b) x y.2 in
    (length a + y.0, omega (arith, y.1, length-append a b), rw (take-append-add a b y.0) both)

-- what holds of each error
pub on-err : {A E : Type 0} (r : Result A E) (P : Type 0) → P → OnErr r P
on-err (Ok a) P p = tt
on-err (Err e) P p = p

-- a text with one piece more
pub with-piece : (new old front bytes piece : List ℕ) → old ≡ front → bytes ≡ piece → new ≡ old ++ bytes
    → new ≡ front ++ piece
with-piece new old front bytes piece old_is bytes_is is = is
    ∙ (ap (λ x. x ++ bytes) old_is ∙ ap (λ x. front ++ x) bytes_is)
