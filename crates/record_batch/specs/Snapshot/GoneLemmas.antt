-- What is gone is up to the cursor, and isn't received again.
use Rattle.std.proofs.Common.{◌≡◌, ℕ, ◌<◌, ◌≤◌, ◌==◌, Bool, true, false, ◌||◌, max, List, [], ◌∷◌, ◌++◌, length, refl}
use Rattle.std.proofs.Common.{sym, ◌∙◌, ap, append_assoc, subst, inl, inr, arith}
use Rattle.std.specs.List.{flat_map}
use Rattle.std.proofs.lemmas.Bool.{and_parts, cases_Bool, eqb-true, false≢true, true≢false}
use Rattle.std.proofs.lemmas.Bool.Decides.{nat_tests}
use Rattle.std.proofs.lemmas.List.{append-nil}
use Rattle.rm_sides.specs.declared.ranges.range.Range.{Range}
use Rattle.rm_sides.specs.Ranges.Ranges.{count_of, in_ranges}
use Rattle.rm_base.specs.NumberSet.{greatest_of, has_number}
use Rattle.rm_sides.specs.Destination.Incoming.{is_loose}
use Rattle.rm_sides.specs.Destination.ItemLemmas.{has-more, numbers-in}
use Rattle.rm_sides.specs.Destination.LooseLemmas.{within-from}
use Rattle.rm_sides.specs.Destination.Messages.{numbers_of, numbers_in}
use Rattle.record_batch.specs.Fact.{Fact, Received, Consumed, Purged}
use Rattle.record_batch.specs.Sequences.Destinations.{behaviour, cursor, cursor_of, held, purged, purged_of, received}
use Rattle.record_batch.specs.Sequences.Destinations.{received_of}
use Rattle.record_batch.specs.Sequences.Fits.{all_fit, fits}
use Rattle.record_batch.specs.Sequences.GatherLemmas.{flat_map-more, greatest_of-append}
use Rattle.record_batch.specs.Sequences.StayLemmas.{behaviour-stays}
use Rattle.record_batch.specs.Snapshot.AckedLemmas.{in_ranges-join}
use Rattle.record_batch.specs.Snapshot.GotLemmas.{Gone, Run, first_run, got_kind, got_with, held-is, held-more}
use Rattle.record_batch.specs.Snapshot.GotLemmas.{message-fits}
use Rattle.record_batch.specs.Snapshot.GotLemmas.{purge-fits, purge-set, purge-side, purge-some, received-with, run}
use Rattle.record_batch.specs.Snapshot.GotLemmas.{some_set, a_message, a_purge, a_consume, besides}
use Rattle.record_batch.specs.Snapshot.Same.{AreNumbers, NumbersAreFromOne}

-- ---- what is gone is up to the cursor, and isn't received again

pub held-has : (l : List Fact) (s n : ℕ)
    → has_number (held l s) n ≡ (in_ranges (purged l s) n || has_number (numbers_of (received l s)) n)
held-has l s n =
    ap (λ xs. has_number xs n) (held-is l s)
    ∙ has-more (numbers_in (purged l s)) (numbers_of (received l s)) n
    ∙ ap (λ b. b || has_number (numbers_of (received l s)) n) (numbers-in (purged l s) n)

-- where something is held, nothing is purged later
pub no-purge-later : (before l : List Fact) (s : ℕ) → all_fit before l ≡ true → 0 < length (held before s)
    → purged l s ≡ []
no-purge-later before [] s fit lt = refl
no-purge-later before (f ∷ l) s fit lt =
    let parts = and_parts (fits before f) (all_fit (before ++ f ∷ []) l) fit in
    let ih = no-purge-later (before ++ f ∷ []) l s parts.1 (omega (arith, lt, held-more before f s)) in
    elim (got_kind s f) as (λ h k. fits before h ≡ true → purged (h ∷ l) s ≡ []) [
      | a_message k p ↦ λ fit. ih
      | a_purge ranges ↦ λ fit. absurd (omega (arith, lt, (purge-fits before s ranges fit).0))
      | a_consume upto ↦ λ fit. ih
      | besides h gots purges cursors ↦ λ fit. ap (λ xs. xs ++ purged l s) (purges h (refl, refl)) ∙ ih
    ] parts.0

-- what is gone is no more than was consumed
pub purged-count : (before l : List Fact) (s : ℕ) → all_fit before l ≡ true → count_of (purged l s) ≤ cursor l s
purged-count before [] s fit = omega arith
purged-count before (f ∷ l) s fit =
    let parts = and_parts (fits before f) (all_fit (before ++ f ∷ []) l) fit in
    let ih = purged-count (before ++ f ∷ []) l s parts.1 in
    let high : cursor (f ∷ l) s ≡ max (greatest_of (cursor_of s f)) (cursor l s) =
    greatest_of-append (cursor_of s f) (flat_map (cursor_of s) l) in
    elim (got_kind s f) as (λ h k. fits before h ≡ true → all_fit (before ++ h ∷ []) l ≡ true
    → cursor (h ∷ l) s ≡ max (greatest_of (cursor_of s h)) (cursor l s) → count_of (purged (h ∷ l) s)
    ≤ cursor (h ∷ l) s) [
      | a_message k p ↦ λ fit rest high. omega (arith, ih, high)
      | a_purge ranges ↦ λ fit rest high.
          let none = no-purge-later (before ++ Purged s ranges ∷ []) l s rest
          (omega (
            arith,
            held-more before (Purged s ranges) s,
            purge-some before s ranges fit,
            ap (λ xs. length (numbers_in xs)) (got_with s ranges),
          )) in
          let gone : purged (Purged s ranges ∷ l) s ≡ ranges =
          ap (λ xs. purged_of s (Purged s ranges) ++ xs) none ∙ append-nil (purged_of s (Purged s ranges))
          ∙ got_with s ranges in
          let told : greatest_of (cursor_of s (Purged s ranges)) ≡ max (count_of ranges) 0 =
          ap greatest_of (got_with s (count_of ranges ∷ [])) in
          omega (arith, ap count_of gone, told, high)
      | a_consume upto ↦ λ fit rest high. omega (arith, ih, high)
      | besides h gots purges cursors ↦ λ fit rest high.
          omega (arith, ih, high, ap (λ xs. count_of (xs ++ purged l s)) (purges h (refl, refl)))
    ] parts.0 parts.1 high

-- and of an ordered sequence its numbers are up to the cursor
pub purged-below : (before l : List Fact) (s n : ℕ) → all_fit before l ≡ true
    → is_loose (behaviour (before ++ l) s) ≡ false → in_ranges (purged l s) n ≡ true → n ≤ cursor l s
purged-below before [] s n fit ordered e = absurd (false≢true e)
purged-below before (f ∷ l) s n fit ordered e =
    let parts = and_parts (fits before f) (all_fit (before ++ f ∷ []) l) fit in
    let high : cursor (f ∷ l) s ≡ max (greatest_of (cursor_of s f)) (cursor l s) =
    greatest_of-append (cursor_of s f) (flat_map (cursor_of s) l) in
    let joined = in_ranges-join (purged_of s f) (purged l s) n in
    elim (cases_Bool (in_ranges (purged_of s f) n)) [
      | inl here ↦
          let le : n ≤ greatest_of (cursor_of s f) = one f parts.0 ordered here in
          omega (arith, le, high)
      | inr not_here ↦
          let le = purged-below (before ++ f ∷ []) l s n parts.1
          (ap (λ r. is_loose (behaviour r s)) (append_assoc before (f ∷ []) l) ∙ ordered)
          (sym (ap (λ b. b || in_ranges (purged l s) n) not_here) ∙ sym joined ∙ e) in
          omega (arith, le, high)
    ]
  where
    run-count : (loose : Bool) (ranges : List Range) → loose ≡ false → Gone loose ranges → in_ranges ranges n ≡ true
        → n ≤ count_of ranges
    run-count loose ranges e (some_set x xs rise) is = absurd (true≢false e)
    run-count loose ranges e (first_run _ run_) is = of_run ranges run_ is
      where
        of_run : (ranges : List Range) → Run ranges → in_ranges ranges n ≡ true → n ≤ count_of ranges
        of_run ranges (run m le) is =
            let here : n ≤ m = grind (arith, nat_tests, is) in
            omega (arith, here)

    one : (g : Fact) → fits before g ≡ true → is_loose (behaviour (before ++ g ∷ l) s) ≡ false
        → in_ranges (purged_of s g) n ≡ true → n ≤ greatest_of (cursor_of s g)
    one g fit ordered e = elim (got_kind s g) as (λ h k. fits before h ≡ true
        → is_loose (behaviour (before ++ h ∷ l) s) ≡ false → in_ranges (purged_of s h) n ≡ true
        → n ≤ greatest_of (cursor_of s h)) [
          | a_message k p ↦ λ fit ordered e. absurd (false≢true e)
          | a_purge ranges ↦ λ fit ordered e.
              let here : is_loose (behaviour before s) ≡ false =
              sym (ap is_loose (behaviour-stays before (Purged s ranges ∷ l) s (purge-side before s ranges fit)))
              ∙ ordered in
              let le : n ≤ count_of ranges =
              run-count (is_loose (behaviour before s)) ranges here (purge-fits before s ranges fit).1
              (ap (λ xs. in_ranges xs n) (sym (got_with s ranges)) ∙ e) in
              omega (arith, le, ap greatest_of (got_with s (count_of ranges ∷ [])))
          | a_consume upto ↦ λ fit ordered e. absurd (false≢true e)
          | besides h gots purges cursors ↦ λ fit ordered e.
              absurd (false≢true (ap (λ xs. in_ranges xs n) (sym (purges h (refl, refl))) ∙ e))
        ] fit ordered e

-- what is gone has numbers from 1 on
pub purged-from : (before l : List Fact) (s n : ℕ) → all_fit before l ≡ true → in_ranges (purged l s) n ≡ true → 0 < n
purged-from before [] s n fit e = absurd (false≢true e)
purged-from before (f ∷ l) s n fit e =
    let parts = and_parts (fits before f) (all_fit (before ++ f ∷ []) l) fit in
    let joined = in_ranges-join (purged_of s f) (purged l s) n in
    elim (cases_Bool (in_ranges (purged_of s f) n)) [
      | inl here ↦ one f parts.0 here
      | inr not_here ↦ purged-from (before ++ f ∷ []) l s n parts.1
          (sym (ap (λ b. b || in_ranges (purged l s) n) not_here) ∙ sym joined ∙ e)
    ]
  where
    one : (g : Fact) → fits before g ≡ true → in_ranges (purged_of s g) n ≡ true → 0 < n
    one g fit e = elim (got_kind s g) as (λ h k. fits before h ≡ true → in_ranges (purged_of s h) n ≡ true → 0 < n) [
      | a_message k p ↦ λ fit e. absurd (false≢true e)
      | a_purge ranges ↦ λ fit e.
          omega (
            arith,
            (within-from 1 n ranges (purge-set before s ranges fit)
                (ap (λ xs. in_ranges xs n) (sym (got_with s ranges)) ∙ e)).0,
          )
      | a_consume upto ↦ λ fit e. absurd (false≢true e)
      | besides h gots purges cursors ↦ λ fit e.
          absurd (false≢true (ap (λ xs. in_ranges xs n) (sym (purges h (refl, refl))) ∙ e))
    ] fit e

-- what is held stays held
pub held-stays : (before : List Fact) (f : Fact) (s n : ℕ) → has_number (held before s) n ≡ true
    → has_number (held (before ++ f ∷ []) s) n ≡ true
held-stays before f s n e =
    held-has (before ++ f ∷ []) s n
    ∙ ap (λ xs. in_ranges xs n || has_number (numbers_of (received (before ++ f ∷ []) s)) n)
    (flat_map-more (purged_of s) before f)
    ∙ ap (λ b. b || has_number (numbers_of (received (before ++ f ∷ []) s)) n)
    (in_ranges-join (purged before s) (purged_of s f) n)
    ∙ ap (λ ms. (in_ranges (purged before s) n || in_ranges (purged_of s f) n) || has_number (numbers_of ms) n)
    (flat_map-more (received_of s) before f)
    ∙ ap (λ ns. (in_ranges (purged before s) n || in_ranges (purged_of s f) n) || has_number ns n)
    (numbers-append (received before s) (received_of s f))
    ∙ ap (λ b. (in_ranges (purged before s) n || in_ranges (purged_of s f) n) || b)
    (has-more (numbers_of (received before s)) (numbers_of (received_of s f)) n)
    ∙ four (in_ranges (purged before s) n) (in_ranges (purged_of s f) n)
    (has_number (numbers_of (received before s)) n) (has_number (numbers_of (received_of s f)) n)
    (sym (held-has before s n) ∙ e)
  where
    four : (a b c d : Bool) → (a || c) ≡ true → ((a || b) || (c || d)) ≡ true
    four true b c d e = refl
    four false true c d e = refl
    four false false c d e = ap (λ x. x || d) e

    numbers-append : {A : Type 0} (xs ys : List (ℕ × A)) → numbers_of (xs ++ ys) ≡ numbers_of xs ++ numbers_of ys
    numbers-append [] ys = refl
    numbers-append (x ∷ xs) ys = ap (λ ns. x.0 ∷ ns) (numbers-append xs ys)

-- what is held before isn't received later
pub held-before : (before l : List Fact) (s n : ℕ) → all_fit before l ≡ true → has_number (held before s) n ≡ true
    → has_number (numbers_of (received l s)) n ≡ false
held-before before [] s n fit e = refl
held-before before (f ∷ l) s n fit e =
    let parts = and_parts (fits before f) (all_fit (before ++ f ∷ []) l) fit in
    let ih = held-before (before ++ f ∷ []) l s n parts.1 (held-stays before f s n e) in
    elim (got_kind s f) as (λ h k. fits before h ≡ true → has_number (numbers_of (received (h ∷ l) s)) n ≡ false) [
      | a_message k p ↦ λ fit.
          let new = (message-fits before s k p fit).1 in
          ap (λ xs. has_number (numbers_of (xs ++ received l s)) n) (received-with s k p)
          ∙ ap (λ b. (k == n) || b) ih
          ∙ differs k new
      | a_purge ranges ↦ λ fit. ih
      | a_consume upto ↦ λ fit. ih
      | besides h gots purges cursors ↦ λ fit.
          ap (λ xs. has_number (numbers_of (xs ++ received l s)) n) (gots h (refl, refl)) ∙ ih
    ] parts.0
  where
    differs : (k : ℕ) → has_number (held before s) k ≡ false → ((k == n) || false) ≡ false
    differs k new = elim (cases_Bool (k == n)) [
      | inl same ↦
          absurd (true≢false (sym (ap (λ i. has_number (held before s) i) (eqb-true k n same) ∙ e) ∙ new))
      | inr other ↦ ap (λ b. b || false) other
    ]

-- what is gone isn't there
pub apart-of : (before l : List Fact) (s n : ℕ) → all_fit before l ≡ true → in_ranges (purged l s) n ≡ true
    → has_number (numbers_of (received l s)) n ≡ false
apart-of before [] s n fit e = refl
apart-of before (f ∷ l) s n fit e =
    let parts = and_parts (fits before f) (all_fit (before ++ f ∷ []) l) fit in
    elim (got_kind s f) as (λ h k. fits before h ≡ true → all_fit (before ++ h ∷ []) l ≡ true
    → in_ranges (purged (h ∷ l) s) n ≡ true → has_number (numbers_of (received (h ∷ l) s)) n ≡ false) [
      | a_message k p ↦ λ fit rest e.
          let none = no-purge-later (before ++ Received s k p ∷ []) l s rest
          (omega (arith, held-more before (Received s k p) s, ap length (received-with s k p))) in
          absurd (false≢true (sym (ap (λ xs. in_ranges xs n) none) ∙ e))
      | a_purge ranges ↦ λ fit rest e.
          let none = no-purge-later (before ++ Purged s ranges ∷ []) l s rest
          (omega (
            arith,
            held-more before (Purged s ranges) s,
            purge-some before s ranges fit,
            ap (λ xs. length (numbers_in xs)) (got_with s ranges),
          )) in
          let here : in_ranges (purged_of s (Purged s ranges)) n ≡ true =
          sym (ap (λ xs. in_ranges (purged_of s (Purged s ranges) ++ xs) n) none
          ∙ ap (λ xs. in_ranges xs n) (append-nil (purged_of s (Purged s ranges)))) ∙ e in
          let now : in_ranges (purged (before ++ Purged s ranges ∷ []) s) n ≡ true =
          ap (λ xs. in_ranges xs n) (flat_map-more (purged_of s) before (Purged s ranges))
          ∙ in_ranges-join (purged before s) (purged_of s (Purged s ranges)) n
          ∙ ap (λ b. in_ranges (purged before s) n || b) here
          ∙ always (in_ranges (purged before s) n) in
          held-before (before ++ Purged s ranges ∷ []) l s n rest
          (held-has (before ++ Purged s ranges ∷ []) s n
          ∙ ap (λ b. b || has_number (numbers_of (received (before ++ Purged s ranges ∷ []) s)) n) now)
      | a_consume upto ↦ λ fit rest e. apart-of (before ++ Consumed s upto ∷ []) l s n rest e
      | besides h gots purges cursors ↦ λ fit rest e.
          ap (λ xs. has_number (numbers_of (xs ++ received l s)) n) (gots h (refl, refl))
          ∙ apart-of (before ++ h ∷ []) l s n rest
          (ap (λ xs. in_ranges (xs ++ purged l s) n) (sym (purges h (refl, refl))) ∙ e)
    ] parts.0 parts.1 e
  where
    always : (b : Bool) → (b || true) ≡ true
    always true = refl
    always false = refl

-- ---- numbers are from 1 on

pub numbers-received : (before l : List Fact) (s : ℕ) → all_fit before l ≡ true → AreNumbers (received l s)
numbers-received before [] s fit = tt
numbers-received before (f ∷ l) s fit =
    let parts = and_parts (fits before f) (all_fit (before ++ f ∷ []) l) fit in
    let rest = numbers-received (before ++ f ∷ []) l s parts.1 in
    elim (got_kind s f) as (λ g k. fits before g ≡ true → AreNumbers (received (g ∷ l) s)) [
      | a_message n p ↦ λ fit. subst (λ xs. AreNumbers (xs ++ received l s)) (sym (received-with s n p))
          (omega (arith, (message-fits before s n p fit).0), rest)
      | a_purge ranges ↦ λ fit. rest
      | a_consume upto ↦ λ fit. rest
      | besides g gots purges cursors ↦ λ fit. subst (λ xs. AreNumbers (xs ++ received l s))
          (sym (gots g (refl, refl))) rest
    ] parts.0

pub numbers-from-one : NumbersAreFromOne
numbers-from-one r fit s = record { received_ = numbers-received [] r s fit; purged_ = λ n. purged-from [] r s n fit }
