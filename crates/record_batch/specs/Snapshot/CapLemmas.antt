-- What is held has message numbers.
use Rattle.std.proofs.Common.{◌≡◌, ℕ, ◌+◌, ◌≤◌, ◌==◌, true, false, ◌||◌, List, [], ◌∷◌, ◌++◌, refl, sym, ◌∙◌, ap, inl}
use Rattle.std.proofs.Common.{inr}
use Rattle.std.proofs.Common.{arith}
use Rattle.std.specs.Prelude.{nat_le}
use Rattle.std.specs.List.{list_all}
use Rattle.std.proofs.lemmas.Bool.{and_parts, cases_Bool, eqb-true, false≢true, leb-true}
use Rattle.rm_sides.specs.Ranges.Ranges.{in_ranges}
use Rattle.rm_base.specs.Message.{max_number}
use Rattle.rm_base.specs.NumberSet.{has_number}
use Rattle.rm_sides.specs.Destination.Incoming.{is_loose}
use Rattle.rm_sides.specs.Destination.Messages.{is_empty, numbers_of}
use Rattle.record_batch.specs.Fact.{Fact, Received, Consumed, Purged}
use Rattle.record_batch.specs.Sequences.Destinations.{behaviour, held, purged, purged_of, received}
use Rattle.record_batch.specs.Sequences.Fits.{all_fit, fits, is_incoming_side, is_up_to, may_be_gone}
use Rattle.record_batch.specs.Sequences.Makers.{maker}
use Rattle.record_batch.specs.Snapshot.AckedLemmas.{in_ranges-join, up_to-has}
use Rattle.record_batch.specs.Snapshot.GoneLemmas.{held-has}
use Rattle.record_batch.specs.Snapshot.GotLemmas.{a_consume, a_message, a_purge, besides as apart_, got_kind, got_with}
use Rattle.record_batch.specs.Snapshot.GotLemmas.{received-with}

received-cap : (before l : List Fact) (s n : ℕ) → all_fit before l ≡ true
    → has_number (numbers_of (received l s)) n ≡ true → n ≤ max_number
received-cap before [] s n fit e = absurd (false≢true e)
received-cap before (f ∷ l) s n fit e =
    let parts = and_parts (fits before f) (all_fit (before ++ f ∷ []) l) fit in
    elim (got_kind s f) as (λ g k. fits before g ≡ true → all_fit (before ++ g ∷ []) l ≡ true
    → has_number (numbers_of (received (g ∷ l) s)) n ≡ true → n ≤ max_number) [
      | a_message k p ↦ λ fit rest e.
          let here : ((k == n) || has_number (numbers_of (received l s)) n) ≡ true =
          sym (ap (λ xs. has_number (numbers_of (xs ++ received l s)) n) (received-with s k p)) ∙ e in
          elim (cases_Bool (k == n)) [
            | inl same ↦
                let one = and_parts (is_incoming_side (maker before s)) _ fit in
                let two = and_parts (nat_le 1 k) _ one.1 in
                let three = and_parts (nat_le k max_number) _ two.1 in
                omega (arith, eqb-true k n same, leb-true k max_number three.0)
            | inr other ↦ received-cap (before ++ Received s k p ∷ []) l s n rest
                (sym (ap (λ b. b || has_number (numbers_of (received l s)) n) other) ∙ here)
          ]
      | a_purge ranges ↦ λ fit rest e. received-cap (before ++ Purged s ranges ∷ []) l s n rest e
      | a_consume upto ↦ λ fit rest e. received-cap (before ++ Consumed s upto ∷ []) l s n rest e
      | apart_ g gots purges cursors ↦ λ fit rest e. received-cap (before ++ g ∷ []) l s n rest
          (sym (ap (λ xs. has_number (numbers_of (xs ++ received l s)) n) (gots g (refl, refl))) ∙ e)
    ] parts.0 parts.1 e

purged-cap : (before l : List Fact) (s n : ℕ) → all_fit before l ≡ true → in_ranges (purged l s) n ≡ true
    → n ≤ max_number
purged-cap before [] s n fit e = absurd (false≢true e)
purged-cap before (f ∷ l) s n fit e =
    let parts = and_parts (fits before f) (all_fit (before ++ f ∷ []) l) fit in
    elim (cases_Bool (in_ranges (purged_of s f) n)) [
      | inl here ↦ one f parts.0 here
      | inr later ↦ purged-cap (before ++ f ∷ []) l s n parts.1
          (sym (ap (λ b. b || in_ranges (purged l s) n) later) ∙ sym (in_ranges-join (purged_of s f) (purged l s) n)
          ∙ e)
    ]
  where
    one : (g : Fact) → fits before g ≡ true → in_ranges (purged_of s g) n ≡ true → n ≤ max_number
    one g fit e = elim (got_kind s g) as (λ h k. fits before h ≡ true → in_ranges (purged_of s h) n ≡ true
        → n ≤ max_number) [
          | a_message k p ↦ λ fit e. absurd (false≢true e)
          | a_purge ranges ↦ λ fit e.
              let one = and_parts (is_incoming_side (maker before s)) _ fit in
              let two = and_parts (is_empty (held before s)) _ one.1 in
              let three = and_parts (list_all (is_up_to max_number) ranges)
              (may_be_gone (is_loose (behaviour before s)) ranges) two.1 in
              up_to-has max_number n ranges three.0 (ap (λ xs. in_ranges xs n) (sym (got_with s ranges)) ∙ e)
          | a_consume upto ↦ λ fit e. absurd (false≢true e)
          | apart_ h gots purges cursors ↦ λ fit e.
              absurd (false≢true (ap (λ xs. in_ranges xs n) (sym (purges h (refl, refl))) ∙ e))
        ] fit e

pub held-cap : (r : List Fact) (s n : ℕ) → all_fit [] r ≡ true → has_number (held r s) n ≡ true → n ≤ max_number
held-cap r s n fit e = elim (cases_Bool (in_ranges (purged r s) n)) [
  | inl gone ↦ purged-cap [] r s n fit gone
  | inr there ↦ received-cap [] r s n fit
      (sym (ap (λ b. b || has_number (numbers_of (received r s)) n) there) ∙ sym (held-has r s n) ∙ e)
]
