-- A sequence stays as it was made, whatever records come behind.
use Rattle.std.proofs.Common.{◌≡◌, ℕ, zero, suc, ◌-◌, ◌==◌, true, false, List, [], ◌∷◌, ◌++◌, cond, refl, sym, ap, ◌∙◌}
use Rattle.std.proofs.Common.{Option, None, Some}
use Rattle.std.specs.Prelude.{slice_get}
use Rattle.std.proofs.lemmas.Bool.{false≢true}
use Rattle.std.proofs.lemmas.Grind.{flat_map-append}
use Rattle.rm_base.specs.Numbered.{numbered}
use Rattle.record_batch.specs.Fact.{Fact}
use Rattle.record_batch.specs.Sequences.Destinations.{behaviour, behaviour_of}
use Rattle.record_batch.specs.Sequences.Fits.{is_incoming_side}
use Rattle.record_batch.specs.Sequences.Makers.{Maker, maker, makers, makers_of}

slice_get-longer : {A : Type 0} (xs ys : List A) (k : ℕ) (x : A) → slice_get xs k ≡ Some x
    → slice_get (xs ++ ys) k ≡ Some x
slice_get-longer [] ys k x e = absurd (cc)
slice_get-longer (y ∷ xs) ys zero x e = e
slice_get-longer (y ∷ xs) ys (suc k) x e = slice_get-longer xs ys k x e

numbered-longer : {A : Type 0} (xs ys : List A) (s : ℕ) (x : A) → numbered xs s ≡ Some x
    → numbered (xs ++ ys) s ≡ Some x
numbered-longer {A = A} xs ys s x e = elim (s == 0) as (λ b. cond b None (slice_get xs (s - 1)) ≡ Some x
    → cond b None (slice_get (xs ++ ys) (s - 1)) ≡ Some x) [
      | true ↦ λ h. h
      | false ↦ λ h. slice_get-longer xs ys (s - 1) x h
    ] e

pub maker-stays : (before behind : List Fact) (s : ℕ) (m : Maker) → maker before s ≡ Some m
    → maker (before ++ behind) s ≡ Some m
maker-stays before behind s m e =
    ap (λ ms. numbered ms s) (flat_map-append makers_of before behind)
    ∙ numbered-longer (makers before) (makers behind) s m e

-- a sequence that receives was made
pub incoming-made : (o : Option Maker) → is_incoming_side o ≡ true → (m : Maker) × (o ≡ Some m)
incoming-made None e = absurd (false≢true e)
incoming-made (Some m) e = (m, refl)

pub incoming-stays : (before behind : List Fact) (s : ℕ) → is_incoming_side (maker before s) ≡ true
    → is_incoming_side (maker (before ++ behind) s) ≡ true
incoming-stays before behind s e =
    let it = incoming-made (maker before s) e in
    ap (λ o. is_incoming_side o) (maker-stays before behind s it.0 it.1)
    ∙ sym (ap (λ o. is_incoming_side o) it.1) ∙ e

pub behaviour-stays : (before behind : List Fact) (s : ℕ) → is_incoming_side (maker before s) ≡ true
    → behaviour (before ++ behind) s ≡ behaviour before s
behaviour-stays before behind s e =
    let it = incoming-made (maker before s) e in
    ap (λ o. behaviour_of o) (maker-stays before behind s it.0 it.1) ∙ sym (ap (λ o. behaviour_of o) it.1)
