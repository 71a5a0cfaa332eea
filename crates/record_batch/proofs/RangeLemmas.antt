-- A set is made of canonical ranges one by one.
use Rattle.std.proofs.Common.{◌≡◌, ℕ, ◌+◌, ◌<◌, ◌≤◌, Bool, true, List, [], ◌∷◌, ◌++◌, length, get_or, take, drop}
use Rattle.std.proofs.Common.{refl, sym, ap, subst, ◌∙◌, arith}
use Rattle.std.specs.Prelude.{◌&&◌}
use Rattle.std.proofs.lemmas.Bool.{lt-ltb}
use Rattle.std.proofs.lemmas.List.{at_drop_more, take_more}
use Rattle.rm_sides.specs.Ranges.Changes.{with_range}
use Rattle.rm_sides.specs.declared.ranges.range.Range.{Range}
use Rattle.record_batch.specs.Parts.{is_from, rise_from}
use Rattle.record_batch.proofs.PartLaws.{from-true}

-- each range ends, with a number behind it, before first
abbrev pub EndBefore : ℕ → List Range → Type 0
EndBefore first [] = Unit {0}
EndBefore first (r ∷ rs) = (r.upper + 2 ≤ first) × EndBefore first rs

with_range-last : (rs : List Range) (first : ℕ) (r : Range) → EndBefore first rs → first ≤ r.lower
    → with_range rs r.lower r.upper ≡ rs ++ r ∷ []
with_range-last [] first r h le = refl
with_range-last (x ∷ rs) first r h le =
    rw (lt-ltb (x.upper + 1) r.lower (omega (arith, h.0, le)), with_range-last rs first r h.1 le) refl

ends-later : (rs : List Range) (first : ℕ) (r : Range) → EndBefore first rs → first ≤ r.lower → r.lower ≤ r.upper
    → EndBefore (r.upper + 2) (rs ++ r ∷ [])
ends-later [] first r h le le2 = (omega arith, tt)
ends-later (x ∷ rs) first r h le le2 = (omega (arith, h.0, le, le2), ends-later rs first r h.1 le le2)

-- the first ranges are in the set
pub record IsSetSoFar (ranges : List Range) (i first : ℕ) (set : List Range) : Type 0 where
  pub so_far : set ≡ take i ranges
  pub ends : EndBefore first set
  pub one : 1 ≤ first
  pub left : rise_from first (drop i ranges) ≡ rise_from 1 ranges

here : (ranges : List Range) (i first : ℕ) (set : List Range) (r d : Range) → IsSetSoFar ranges i first set
    → i < length ranges → r ≡ get_or ranges i d
    → (is_from first r && rise_from (r.upper + 2) (drop (i + 1) ranges)) ≡ rise_from 1 ranges
here ranges i first set r d h lt e =
    ap (λ (x : Range). is_from first x && rise_from (x.upper + 2) (drop (i + 1) ranges)) e
    ∙ sym (at_drop_more (rise_from first) ranges i d lt) ∙ h.left

pub set-goes_on : (ranges : List Range) (i first : ℕ) (set new : List Range) (r d : Range)
    → IsSetSoFar ranges i first set → i < length ranges → r ≡ get_or ranges i d → is_from first r ≡ true
    → new ≡ with_range set r.lower r.upper → IsSetSoFar ranges (i + 1) (r.upper + 2) new
set-goes_on ranges i first set new r d h lt e test is =
    let q = from-true first r test in
    let appended : new ≡ set ++ r ∷ [] = is ∙ with_range-last set first r h.ends q.0 in
    record {
      so_far = appended ∙ ap (λ (front : List Range). front ++ r ∷ []) h.so_far
          ∙ ap (λ (x : Range). take i ranges ++ x ∷ []) e ∙ sym (take_more ranges i d lt);
      ends = subst (λ (rs : List Range). EndBefore (r.upper + 2) rs) (sym appended)
          (ends-later set first r h.ends q.0 q.1);
      one = omega arith;
      left = ap (λ (b : Bool). b && rise_from (r.upper + 2) (drop (i + 1) ranges)) (sym test)
          ∙ here ranges i first set r d h lt e;
    }
