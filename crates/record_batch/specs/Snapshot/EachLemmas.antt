-- What each record of a list keeps, each record of its snapshot keeps.
use Rattle.std.proofs.Common.{ℕ, ◌<◌, ◌==◌, true, false, cond, List, [], ◌∷◌, ◌++◌, sym, subst, inl, inr, arith}
use Rattle.std.specs.Prelude.{nat_lt}
use Rattle.std.specs.List.{list_any, AllByRecursion}
use Rattle.std.proofs.lemmas.Bool.{cases_Bool, ltb-true}
use Rattle.rm_sides.specs.declared.ranges.range.Range.{Range}
use Rattle.rm_sides.specs.Ranges.Ranges.{in_ranges}
use Rattle.rm_base.specs.declared.message.Payload.{Payload}
use Rattle.rm_sides.specs.Destination.Messages.{is_empty}
use Rattle.record_batch.specs.Fact.{Fact, Accepted, Acked, Received, Consumed, Dropped, Purged}
use Rattle.record_batch.specs.Sequences.Sources.{accepted_count}
use Rattle.record_batch.specs.Sequences.Destinations.{held}
use Rattle.record_batch.specs.Snapshot.Snapshot.{acked_with, acks, instead, left_acked, passed, purged_with, settled}
use Rattle.record_batch.specs.Snapshot.Snapshot.{snapshot_from}

-- what a record has that is written in the place of another one, that one had
pub record IsPassedOn (P : Fact → Type 0) (r : List Fact) : Type 0 where
  pub acks_ : (s : ℕ) (ranges : List Range) → P (Acked s ranges) → AllByRecursion P (acked_with s (left_acked r s))
  pub accepts : (s : ℕ) (p : List ℕ) → 0 < settled r s → P (Accepted s p) → P (Dropped s (settled r s))
  pub drops : (s u : ℕ) → P (Dropped s u) → P (Dropped s (settled r s))
  pub receives : (s n : ℕ) (p : Payload) → P (Received s n p) → AllByRecursion P (purged_with s (passed r s))
  pub purges : (s : ℕ) (ranges : List Range) → P (Purged s ranges) → AllByRecursion P (purged_with s (passed r s))

both : (P : Fact → Type 0) (xs ys : List Fact) → AllByRecursion P xs → AllByRecursion P ys → AllByRecursion P (xs ++ ys)
both P [] ys h g = g
both P (x ∷ xs) ys h g = (h.0, both P xs ys h.1 g)

-- of ranges that are written where there is one
pub each-acked : (P : Fact → Type 0) (s : ℕ) (xs : List Range) → P (Acked s xs) → AllByRecursion P (acked_with s xs)
each-acked P s [] has = tt
each-acked P s (x ∷ xs) has = (has, tt)

pub each-purged : (P : Fact → Type 0) (s : ℕ) (xs : List Range) → P (Purged s xs) → AllByRecursion P (purged_with s xs)
each-purged P s [] has = tt
each-purged P s (x ∷ xs) has = (has, tt)

-- what stands in the place of a record
pub each-instead : (P : Fact → Type 0) (r before : List Fact) (f : Fact) (behind : List Fact) → IsPassedOn P r → P f
    → AllByRecursion P (instead r before f behind)
each-instead P r before (Acked s ranges) behind on has =
    elim (list_any (acks s) behind) as (λ b. AllByRecursion P (cond b [] (acked_with s (left_acked r s)))) [
      | true ↦ tt
      | false ↦ on.acks_ s ranges has
    ]
each-instead P r before (Accepted s p) behind on has =
    elim (cases_Bool (nat_lt (accepted_count before s) (settled r s))) [
      | inl gone ↦
          let lt : accepted_count before s < settled r s = ltb-true (accepted_count before s) (settled r s) gone in
          subst (λ b. AllByRecursion P (cond b (cond (accepted_count before s == 0) (Dropped s (settled r s) ∷ []) [])
          (Accepted s p ∷ []))) (sym gone)
          (elim (accepted_count before s == 0) as (λ b. AllByRecursion P (cond b (Dropped s (settled r s) ∷ []) [])) [
            | true ↦ (on.accepts s p (omega (arith, lt)) has, tt)
            | false ↦ tt
          ])
      | inr there ↦
          subst (λ b. AllByRecursion P (cond b (cond (accepted_count before s == 0) (Dropped s (settled r s) ∷ []) [])
          (Accepted s p ∷ []))) (sym there) (has, tt)
    ]
each-instead P r before (Dropped s u) behind on has = (on.drops s u has, tt)
each-instead P r before (Received s n p) behind on has =
    both P (cond (is_empty (held before s)) (purged_with s (passed r s)) [])
    (cond (in_ranges (passed r s) n) [] (Received s n p ∷ []))
    (elim (is_empty (held before s)) as (λ b. AllByRecursion P (cond b (purged_with s (passed r s)) [])) [
      | true ↦ on.receives s n p has
      | false ↦ tt
    ])
    (elim (in_ranges (passed r s) n) as (λ b. AllByRecursion P (cond b [] (Received s n p ∷ []))) [
      | true ↦ tt
      | false ↦ (has, tt)
    ])
each-instead P r before (Purged s ranges) behind on has =
    elim (is_empty (passed r s)) as (λ b. AllByRecursion P
    (cond b (Purged s ranges ∷ []) (purged_with s (passed r s)))) [
      | true ↦ (has, tt)
      | false ↦ on.purges s ranges has
    ]
each-instead P r before (Consumed s upto) behind on has =
    elim (is_empty (passed r s)) as (λ b. AllByRecursion P (cond b (Consumed s upto ∷ []) [])) [
      | true ↦ (has, tt)
      | false ↦ tt
    ]
each-instead P r before _ behind on has = (has, tt)

pub keeps : (P : Fact → Type 0) (r before l : List Fact) → IsPassedOn P r → AllByRecursion P l
    → AllByRecursion P (snapshot_from r before l)
keeps P r before [] on each = tt
keeps P r before (f ∷ l) on each =
    both P (instead r before f l) (snapshot_from r (before ++ f ∷ []) l) (each-instead P r before f l on each.0)
    (keeps P r (before ++ f ∷ []) l on each.1)
