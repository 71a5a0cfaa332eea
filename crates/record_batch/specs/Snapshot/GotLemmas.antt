-- What a snapshot says of what was received.
use Rattle.std.proofs.Common.{◌≡◌, ◌≢◌, ℕ, suc, ◌+◌, ◌-◌, ◌<◌, ◌≤◌, ◌==◌, Bool, true, false, cond, List, [], ◌∷◌}
use Rattle.std.proofs.Common.{◌++◌, length, refl, sym, ◌∙◌, ap, subst, inl, inr, arith, append_assoc, length-append}
use Rattle.std.proofs.Common.{not}
use Rattle.std.specs.Prelude.{nat_le}
use Rattle.std.specs.List.{flat_map, list_all}
use Rattle.std.proofs.lemmas.List.Sums.{sum_by-cons}
use Rattle.std.proofs.lemmas.Bool.{and_parts, cases_Bool, eqb-true, false≢true, leb-true}
use Rattle.std.proofs.lemmas.Grind.{flat_map-append}
use Rattle.std.proofs.lemmas.List.{append-nil}
use Rattle.rm_sides.specs.declared.ranges.range.Range.{Range}
use Rattle.rm_sides.specs.Ranges.Ranges.{RisesFrom, count_of, in_ranges, size_of}
use Rattle.rm_base.specs.Message.{max_number}
use Rattle.rm_base.specs.NumberSet.{has_number}
use Rattle.rm_base.specs.declared.message.Payload.{Payload}
use Rattle.rm_sides.specs.Destination.Incoming.{is_loose}
use Rattle.rm_sides.specs.Destination.ItemLemmas.{length-numbers_in, length-run, numbers_of-both}
use Rattle.rm_sides.specs.Destination.Messages.{without}
use Rattle.rm_sides.specs.Destination.Messages.{is_empty, numbers_of, gone_items, numbers_in, run_of, there_items}
use Rattle.record_batch.specs.Fact.{Fact, Accepted, Acked, Received, Consumed, Dropped, Purged}
use Rattle.record_batch.specs.Sequences.Destinations.{behaviour, cursor_of, held, is_stopped, purged, purged_of}
use Rattle.record_batch.specs.Sequences.Destinations.{received}
use Rattle.record_batch.specs.Sequences.Destinations.{received_of}
use Rattle.record_batch.specs.Sequences.Fits.{all_fit, fits, is_first_run, is_incoming_side, is_up_to}
use Rattle.record_batch.specs.Sequences.Fits.{may_be_gone}
use Rattle.record_batch.specs.Sequences.GatherLemmas.{flat_map-more}
use Rattle.record_batch.specs.Sequences.Makers.{maker}
use Rattle.record_batch.specs.Sequences.NameLemmas.{elsewhere_cursor, elsewhere_purged, elsewhere_received}
use Rattle.record_batch.specs.Sequences.SetLemmas.{set-of}
use Rattle.record_batch.specs.Sequences.Told.{names}
use Rattle.record_batch.specs.Snapshot.SentLemmas.{IsLike, class, differ, like, quiet_in, same-seq}
use Rattle.record_batch.specs.Snapshot.Snapshot.{instead, passed, purged_with, snapshot_from}

-- ---- kinds

-- what a record is to what sequence s receives: a message, numbers that are gone, how far it was consumed, or nothing
pub data GotKind (s : ℕ) : Fact → Type 0 where
  a_message : (n : ℕ) (p : Payload) → GotKind s (Received s n p)
  a_purge : (ranges : List Range) → GotKind s (Purged s ranges)
  a_consume : (upto : ℕ) → GotKind s (Consumed s upto)
  besides : (f : Fact) → ((h : Fact) → IsLike f h → received_of s h ≡ [])
      → ((h : Fact) → IsLike f h → purged_of s h ≡ [])
      → ((h : Fact) → IsLike f h → cursor_of s h ≡ []) → GotKind s f

no-message : (s c : ℕ) (h : Fact) → class h ≡ c → c ≢ 3 → received_of s h ≡ []
no-message s c (Received seq n p) e ne = absurd (ne (sym e))
no-message s c _ e ne = refl

no-purge : (s c : ℕ) (h : Fact) → class h ≡ c → c ≢ 3 → purged_of s h ≡ []
no-purge s c (Purged seq ranges) e ne = absurd (ne (sym e))
no-purge s c _ e ne = refl

no-cursor : (s c : ℕ) (h : Fact) → class h ≡ c → c ≢ 3 → cursor_of s h ≡ []
no-cursor s c (Purged seq ranges) e ne = absurd (ne (sym e))
no-cursor s c (Consumed seq upto) e ne = absurd (ne (sym e))
no-cursor s c _ e ne = refl

apart : (s : ℕ) (f : Fact) → names f ≢ s → GotKind s f
apart s f ne = besides f (λ h is. elsewhere_received h s (λ e. ne (sym is.1 ∙ e)))
    (λ h is. elsewhere_purged h s (λ e. ne (sym is.1 ∙ e))) (λ h is. elsewhere_cursor h s (λ e. ne (sym is.1 ∙ e)))

not-got : (s : ℕ) (f : Fact) → class f ≢ 3 → GotKind s f
not-got s f ne = besides f (λ h is. no-message s (class f) h is.0 ne) (λ h is. no-purge s (class f) h is.0 ne)
    (λ h is. no-cursor s (class f) h is.0 ne)

low : (n : ℕ) → n ≤ 2 → n ≢ 3
low n le e = absurd (omega (arith, e, le))

pub got_kind : (s : ℕ) (f : Fact) → GotKind s f
got_kind s (Received seq n p) = elim (cases_Bool (seq == s)) [
  | inl same ↦ subst (λ k. GotKind s (Received k n p)) (sym (eqb-true seq s same)) (a_message n p)
  | inr other ↦ apart s (Received seq n p) (differ seq s other)
]
got_kind s (Purged seq ranges) = elim (cases_Bool (seq == s)) [
  | inl same ↦ subst (λ k. GotKind s (Purged k ranges)) (sym (eqb-true seq s same)) (a_purge ranges)
  | inr other ↦ apart s (Purged seq ranges) (differ seq s other)
]
got_kind s (Consumed seq upto) = elim (cases_Bool (seq == s)) [
  | inl same ↦ subst (λ k. GotKind s (Consumed k upto)) (sym (eqb-true seq s same)) (a_consume upto)
  | inr other ↦ apart s (Consumed seq upto) (differ seq s other)
]
got_kind s (Accepted seq payload) = not-got s (Accepted seq payload) (low 1 (omega arith))
got_kind s (Dropped seq upto) = not-got s (Dropped seq upto) (low 1 (omega arith))
got_kind s (Acked seq ranges) = not-got s (Acked seq ranges) (low 2 (omega arith))
got_kind s f = not-got s f (low 0 (omega arith))

pub got_with : {A : Type 0} (s : ℕ) (xs : List A) → cond (s == s) xs [] ≡ xs
got_with s xs = ap (λ b. cond b xs []) (same-seq s)

-- ---- how many are held

numbers_in-append : (xs ys : List Range) → numbers_in (xs ++ ys) ≡ numbers_in xs ++ numbers_in ys
numbers_in-append [] ys = refl
numbers_in-append (x ∷ xs) ys = ap (λ zs. run_of x.lower (size_of x) ++ zs) (numbers_in-append xs ys)
    ∙ sym (append_assoc (run_of x.lower (size_of x)) (numbers_in xs) (numbers_in ys))

pub held-is : (l : List Fact) (s : ℕ) → held l s ≡ numbers_in (purged l s) ++ numbers_of (received l s)
held-is l s = numbers_of-both (numbers_in (purged l s)) (received l s)

numbers-length : {A : Type 0} (ms : List (ℕ × A)) → length (numbers_of ms) ≡ length ms
numbers-length [] = refl
numbers-length (m ∷ ms) = ap (λ n. suc n) (numbers-length ms)

pub held-length : (l : List Fact) (s : ℕ) → length (held l s) ≡ length (numbers_in (purged l s)) + length (received l s)
held-length l s =
    omega (
      arith,
      ap length (held-is l s),
      length-append (numbers_in (purged l s)) (numbers_of (received l s)),
      numbers-length (received l s),
    )

pub held-more : (before : List Fact) (f : Fact) (s : ℕ) → length (held (before ++ f ∷ []) s)
    ≡ length (held before s) + length (numbers_in (purged_of s f)) + length (received_of s f)
held-more before f s =
    let p : numbers_in (purged (before ++ f ∷ []) s) ≡ numbers_in (purged before s) ++ numbers_in (purged_of s f) =
    ap numbers_in (flat_map-more (purged_of s) before f) ∙ numbers_in-append (purged before s) (purged_of s f) in
    omega (
      arith,
      held-length (before ++ f ∷ []) s,
      held-length before s,
      ap length p,
      length-append (numbers_in (purged before s)) (numbers_in (purged_of s f)),
      ap length (flat_map-more (received_of s) before f),
      length-append (received before s) (received_of s f),
    )

pub empty-none : {A : Type 0} (xs : List A) → is_empty xs ≡ true → length xs ≡ 0
empty-none [] e = refl
empty-none (x ∷ xs) e = absurd (false≢true e)

pub some-not : {A : Type 0} (xs : List A) → 0 < length xs → is_empty xs ≡ false
some-not [] lt = absurd (omega (arith, lt))
some-not (x ∷ xs) lt = refl

pub none-empty : {A : Type 0} (xs : List A) → length xs ≡ 0 → is_empty xs ≡ true
none-empty [] e = refl
none-empty (x ∷ xs) e = absurd (omega (arith, e))

-- exactly 1 to some n
pub data Run : List Range → Type 0 where
  run : (n : ℕ) → 1 ≤ n → Run (record { lower = 1; upper = n } ∷ [])

pub run-of : (ranges : List Range) → is_first_run ranges ≡ true → Run ranges
run-of [] e = absurd (false≢true e)
run-of (x ∷ y ∷ xs) e = absurd (false≢true e)
run-of (x ∷ []) e =
    let parts = and_parts (x.lower == 1) (nat_le 1 x.upper) e in
    let one = eqb-true x.lower 1 parts.0 in
    subst (λ k. Run (record { lower = k; upper = x.upper } ∷ [])) (sym one)
    (with_one x.upper (leb-true 1 x.upper parts.1))
  where
    with_one : (n : ℕ) → 1 ≤ n → Run (record { lower = 1; upper = n } ∷ [])
    with_one n le = run n le

-- what may be gone: of a loose sequence a set of numbers, of another one exactly 1 to some n
pub data Gone : Bool → List Range → Type 0 where
  some_set : (x : Range) (xs : List Range) → RisesFrom 1 (x ∷ xs) → Gone true (x ∷ xs)
  first_run : (ranges : List Range) → Run ranges → Gone false ranges

pub gone-of : (loose : Bool) (ranges : List Range) → may_be_gone loose ranges ≡ true → Gone loose ranges
gone-of true [] e = absurd (false≢true e)
gone-of true (x ∷ xs) e = some_set x xs (set-of 1 (x ∷ xs) e)
gone-of false ranges e = first_run ranges (run-of ranges e)

pub run-some : (ranges : List Range) → Run ranges → 0 < length (numbers_in ranges)
run-some ranges (run n le) =
    let size : n + 1 - 1 ≡ n = omega arith in
    omega (arith, le, length-append (run_of 1 (n + 1 - 1)) [], length-run 1 (n + 1 - 1), size)

-- there is a number among them
pub set-some : (x : Range) (xs : List Range) → RisesFrom 1 (x ∷ xs) → 0 < length (numbers_in (x ∷ xs))
set-some x xs rise =
    let all : count_of (x ∷ xs) ≡ x.upper + 1 - x.lower + count_of xs = sum_by-cons size_of x xs in
    omega (arith, length-numbers_in (x ∷ xs), all, rise.1)

pub gone-some : (loose : Bool) (ranges : List Range) → Gone loose ranges → 0 < length (numbers_in ranges)
gone-some loose ranges (some_set x xs rise) = set-some x xs rise
gone-some loose ranges (first_run _ run_) = run-some ranges run_

-- they are a set of message numbers
pub gone-set : (loose : Bool) (ranges : List Range) → list_all (is_up_to max_number) ranges ≡ true → Gone loose ranges
    → RisesFrom 1 ranges
gone-set loose ranges top (some_set x xs rise) = rise
gone-set loose ranges top (first_run _ run_) = of_run ranges run_ top
  where
    of_run : (ranges : List Range) → Run ranges → list_all (is_up_to max_number) ranges ≡ true → RisesFrom 1 ranges
    of_run ranges (run n le) top =
        let one = (and_parts (is_up_to max_number (record { lower = 1; upper = n })) true top).0 in
        (omega arith, le, leb-true n max_number (and_parts (nat_le 1 1) (nat_le n max_number) one).1, tt)

-- ---- what the tests say

pub purge-fits : (before : List Fact) (s : ℕ) (ranges : List Range) → fits before (Purged s ranges) ≡ true
    → (length (held before s) ≡ 0) × Gone (is_loose (behaviour before s)) ranges
purge-fits before s ranges fit =
    let one = and_parts (is_incoming_side (maker before s)) _ fit in
    let two = and_parts (is_empty (held before s)) _ one.1 in
    let three = and_parts (list_all (is_up_to max_number) ranges) (may_be_gone (is_loose (behaviour before s)) ranges)
    two.1 in
    (empty-none (held before s) two.0, gone-of (is_loose (behaviour before s)) ranges three.1)

pub purge-some : (before : List Fact) (s : ℕ) (ranges : List Range) → fits before (Purged s ranges) ≡ true
    → 0 < length (numbers_in ranges)
purge-some before s ranges fit =
    gone-some (is_loose (behaviour before s)) ranges (purge-fits before s ranges fit).1

pub purge-set : (before : List Fact) (s : ℕ) (ranges : List Range) → fits before (Purged s ranges) ≡ true
    → RisesFrom 1 ranges
purge-set before s ranges fit =
    let one = and_parts (is_incoming_side (maker before s)) _ fit in
    let two = and_parts (is_empty (held before s)) _ one.1 in
    let cap = (and_parts (list_all (is_up_to max_number) ranges) _ two.1).0 in
    gone-set (is_loose (behaviour before s)) ranges cap (purge-fits before s ranges fit).1

-- a sequence that a message or what is gone is recorded of receives
pub purge-side : (before : List Fact) (s : ℕ) (ranges : List Range) → fits before (Purged s ranges) ≡ true
    → is_incoming_side (maker before s) ≡ true
purge-side before s ranges fit = (and_parts (is_incoming_side (maker before s)) _ fit).0

pub message-side : (before : List Fact) (s n : ℕ) (p : Payload) → fits before (Received s n p) ≡ true
    → is_incoming_side (maker before s) ≡ true
message-side before s n p fit = (and_parts (is_incoming_side (maker before s)) _ fit).0

pub message-fits : (before : List Fact) (s n : ℕ) (p : Payload) → fits before (Received s n p) ≡ true
    → (1 ≤ n) × (has_number (held before s) n ≡ false)
message-fits before s n p fit =
    let one = and_parts (is_incoming_side (maker before s)) _ fit in
    let two = and_parts (nat_le 1 n) _ one.1 in
    let three = and_parts (nat_le n max_number) _ two.1 in
    let four = and_parts (not (has_number (held before s) n)) (not (is_stopped before s)) three.1 in
    (leb-true 1 n two.0, not-true (has_number (held before s) n) four.0)
  where
    not-true : (b : Bool) → not b ≡ true → b ≡ false
    not-true true e = absurd (false≢true e)
    not-true false e = refl

-- ---- what is there

pub received-with : (s n : ℕ) (p : Payload) → received_of s (Received s n p) ≡ (n, p) ∷ []
received-with s n p = got_with s ((n, p) ∷ [])

pub no-received : (s seq : ℕ) (xs : List Range) → received (purged_with seq xs) s ≡ []
no-received s seq [] = refl
no-received s seq (x ∷ xs) = refl

pub received-kept : (r : List Fact) (s : ℕ) (before l : List Fact)
    → received (snapshot_from r before l) s ≡ without (passed r s) (received l s)
received-kept r s before [] = refl
received-kept r s before (f ∷ l) =
    elim (got_kind s f) as (λ g k. received (snapshot_from r before (g ∷ l)) s
    ≡ without (passed r s) (received (g ∷ l) s)) [
      | a_message n p ↦
          let after = before ++ Received s n p ∷ [] in
          let first = cond (is_empty (held before s)) (purged_with s (passed r s)) [] in
          let second = cond (in_ranges (passed r s) n) [] (Received s n p ∷ []) in
          flat_map-append (received_of s) (first ++ second) (snapshot_from r after l)
          ∙ ap (λ xs. xs ++ received (snapshot_from r after l) s)
          (flat_map-append (received_of s) first second ∙ ap (λ xs. xs ++ received second s)
          (none_first (is_empty (held before s))))
          ∙ ap (λ xs. received second s ++ xs) (received-kept r s after l)
          ∙ one n p (in_ranges (passed r s) n)
          ∙ sym (ap (λ xs. without (passed r s) (xs ++ received l s)) (received-with s n p))
      | a_purge ranges ↦
          let after = before ++ Purged s ranges ∷ [] in
          flat_map-append (received_of s) (instead r before (Purged s ranges) l) (snapshot_from r after l)
          ∙ ap (λ xs. xs ++ received (snapshot_from r after l) s) (none_purge ranges (is_empty (passed r s)))
          ∙ received-kept r s after l
      | a_consume upto ↦
          let after = before ++ Consumed s upto ∷ [] in
          flat_map-append (received_of s) (instead r before (Consumed s upto) l) (snapshot_from r after l)
          ∙ ap (λ xs. xs ++ received (snapshot_from r after l) s) (none_consume upto (is_empty (passed r s)))
          ∙ received-kept r s after l
      | besides g gots purges cursors ↦
          let after = before ++ g ∷ [] in
          flat_map-append (received_of s) (instead r before g l) (snapshot_from r after l)
          ∙ ap (λ xs. xs ++ received (snapshot_from r after l) s)
          (quiet_in (received_of s) g gots (instead r before g l) (like r before g l))
          ∙ received-kept r s after l
          ∙ sym (ap (λ xs. without (passed r s) (xs ++ received l s)) (gots g (refl, refl)))
    ]
  where
    none_first : (b : Bool) → received (cond b (purged_with s (passed r s)) []) s ≡ []
    none_first true = no-received s s (passed r s)
    none_first false = refl

    none_purge : (ranges : List Range) (b : Bool)
        → received (cond b (Purged s ranges ∷ []) (purged_with s (passed r s))) s ≡ []
    none_purge ranges true = refl
    none_purge ranges false = no-received s s (passed r s)

    none_consume : (upto : ℕ) (b : Bool) → received (cond b (Consumed s upto ∷ []) []) s ≡ []
    none_consume upto true = refl
    none_consume upto false = refl

    one : (n : ℕ) (p : Payload) (b : Bool) → received (cond b [] (Received s n p ∷ [])) s
        ++ without (passed r s) (received l s)
        ≡ cond b (without (passed r s) (received l s)) ((n, p) ∷ without (passed r s) (received l s))
    one n p true = refl
    one n p false = ap (λ xs. (xs ++ []) ++ without (passed r s) (received l s)) (received-with s n p)

-- ---- what is gone, where nothing more goes

pub purged-same : (r : List Fact) (s : ℕ) → passed r s ≡ [] → (before l : List Fact)
    → (purged (snapshot_from r before l) s ≡ purged l s)
    × (flat_map (cursor_of s) (snapshot_from r before l) ≡ flat_map (cursor_of s) l)
purged-same r s none before [] = (refl, refl)
purged-same r s none before (f ∷ l) =
    elim (got_kind s f) as (λ g k. (purged (snapshot_from r before (g ∷ l)) s ≡ purged (g ∷ l) s)
    × (flat_map (cursor_of s) (snapshot_from r before (g ∷ l)) ≡ flat_map (cursor_of s) (g ∷ l))) [
      | a_message n p ↦
          let after = before ++ Received s n p ∷ [] in
          let same : instead r before (Received s n p) l ≡ Received s n p ∷ [] =
          ap (λ ps. cond (is_empty (held before s)) (purged_with s ps) []
          ++ cond (in_ranges ps n) [] (Received s n p ∷ [])) none
          ∙ over n p (is_empty (held before s)) in
          let ih = purged-same r s none after l in (
            ap (λ xs. purged (xs ++ snapshot_from r after l) s) same ∙ ih.0,
            ap (λ xs. flat_map (cursor_of s) (xs ++ snapshot_from r after l)) same ∙ ih.1,
          )
      | a_purge ranges ↦
          let after = before ++ Purged s ranges ∷ [] in
          let same : instead r before (Purged s ranges) l ≡ Purged s ranges ∷ [] =
          ap (λ ps. cond (is_empty ps) (Purged s ranges ∷ []) (purged_with s ps)) none in
          let ih = purged-same r s none after l in (
            ap (λ xs. purged (xs ++ snapshot_from r after l) s) same
                ∙ ap (λ xs. purged_of s (Purged s ranges) ++ xs) ih.0,
            ap (λ xs. flat_map (cursor_of s) (xs ++ snapshot_from r after l)) same
                ∙ ap (λ xs. cursor_of s (Purged s ranges) ++ xs) ih.1,
          )
      | a_consume upto ↦
          let after = before ++ Consumed s upto ∷ [] in
          let same : instead r before (Consumed s upto) l ≡ Consumed s upto ∷ [] =
          ap (λ ps. cond (is_empty ps) (Consumed s upto ∷ []) []) none in
          let ih = purged-same r s none after l in (
            ap (λ xs. purged (xs ++ snapshot_from r after l) s) same ∙ ih.0,
            ap (λ xs. flat_map (cursor_of s) (xs ++ snapshot_from r after l)) same
                ∙ ap (λ xs. cursor_of s (Consumed s upto) ++ xs) ih.1,
          )
      | besides g gots purges cursors ↦
          let after = before ++ g ∷ [] in
          let ih = purged-same r s none after l in (
            flat_map-append (purged_of s) (instead r before g l) (snapshot_from r after l)
                ∙ ap (λ xs. xs ++ purged (snapshot_from r after l) s)
                (quiet_in (purged_of s) g purges (instead r before g l) (like r before g l))
                ∙ ih.0 ∙ sym (ap (λ xs. xs ++ purged l s) (purges g (refl, refl))),
            flat_map-append (cursor_of s) (instead r before g l) (snapshot_from r after l)
                ∙ ap (λ xs. xs ++ flat_map (cursor_of s) (snapshot_from r after l))
                (quiet_in (cursor_of s) g cursors (instead r before g l) (like r before g l))
                ∙ ih.1 ∙ sym (ap (λ xs. xs ++ flat_map (cursor_of s) l) (cursors g (refl, refl))),
          )
    ]
  where
    over : (n : ℕ) (p : Payload) (b : Bool) → cond b [] [] ++ Received s n p ∷ [] ≡ Received s n p ∷ []
    over n p true = refl
    over n p false = refl

-- ---- what is gone, where something more goes

pub purged-has : (s : ℕ) (ps : List Range) → purged (purged_with s ps) s ≡ ps
purged-has s [] = refl
purged-has s (p ∷ ps) = ap (λ xs. xs ++ []) (got_with s (p ∷ ps)) ∙ append-nil (p ∷ ps)

-- how far such ranges say that it was consumed
abbrev pub one-cursor : List Range → List ℕ
one-cursor [] = []
one-cursor (p ∷ ps) = count_of (p ∷ ps) ∷ []

cursor-has : (s : ℕ) (ps : List Range) → flat_map (cursor_of s) (purged_with s ps) ≡ one-cursor ps
cursor-has s [] = refl
cursor-has s (p ∷ ps) = ap (λ xs. xs ++ []) (got_with s (count_of (p ∷ ps) ∷ []))

-- where something is held before, nothing more goes
none-later : (r : List Fact) (s : ℕ) → is_empty (passed r s) ≡ false → (before l : List Fact) → all_fit before l ≡ true
    → 0 < length (held before s)
    → (purged (snapshot_from r before l) s ≡ []) × (flat_map (cursor_of s) (snapshot_from r before l) ≡ [])
none-later r s some before [] fit lt = (refl, refl)
none-later r s some before (f ∷ l) fit lt =
    let parts = and_parts (fits before f) (all_fit (before ++ f ∷ []) l) fit in
    elim (got_kind s f) as (λ g k. fits before g ≡ true → all_fit (before ++ g ∷ []) l ≡ true
    → (purged (snapshot_from r before (g ∷ l)) s ≡ [])
    × (flat_map (cursor_of s) (snapshot_from r before (g ∷ l)) ≡ [])) [
      | a_message n p ↦ λ one rest.
          let after = before ++ Received s n p ∷ [] in
          let ih = none-later r s some after l rest (omega (arith, lt, held-more before (Received s n p) s)) in
          let same : instead r before (Received s n p) l ≡ cond (in_ranges (passed r s) n) [] (Received s n p ∷ []) =
          ap (λ b. cond b (purged_with s (passed r s)) [] ++ cond (in_ranges (passed r s) n) [] (Received s n p ∷ []))
          (some-not (held before s) lt) in (
            ap (λ xs. purged (xs ++ snapshot_from r after l) s) same
                ∙ over_p n p (in_ranges (passed r s) n) (snapshot_from r after l) ∙ ih.0,
            ap (λ xs. flat_map (cursor_of s) (xs ++ snapshot_from r after l)) same
                ∙ over_c n p (in_ranges (passed r s) n) (snapshot_from r after l) ∙ ih.1,
          )
      | a_purge ranges ↦ λ one rest. absurd (omega (arith, lt, (purge-fits before s ranges one).0))
      | a_consume upto ↦ λ one rest.
          let after = before ++ Consumed s upto ∷ [] in
          let ih = none-later r s some after l rest (omega (arith, lt, held-more before (Consumed s upto) s)) in
          let same : instead r before (Consumed s upto) l ≡ [] = ap (λ b. cond b (Consumed s upto ∷ []) []) some in (
            ap (λ xs. purged (xs ++ snapshot_from r after l) s) same ∙ ih.0,
            ap (λ xs. flat_map (cursor_of s) (xs ++ snapshot_from r after l)) same ∙ ih.1,
          )
      | besides g gots purges cursors ↦ λ one rest.
          let after = before ++ g ∷ [] in
          let ih = none-later r s some after l rest (omega (arith, lt, held-more before g s)) in (
            flat_map-append (purged_of s) (instead r before g l) (snapshot_from r after l)
                ∙ ap (λ xs. xs ++ purged (snapshot_from r after l) s)
                (quiet_in (purged_of s) g purges (instead r before g l) (like r before g l)) ∙ ih.0,
            flat_map-append (cursor_of s) (instead r before g l) (snapshot_from r after l)
                ∙ ap (λ xs. xs ++ flat_map (cursor_of s) (snapshot_from r after l))
                (quiet_in (cursor_of s) g cursors (instead r before g l) (like r before g l)) ∙ ih.1,
          )
    ] parts.0 parts.1
  where
    over_p : (n : ℕ) (p : Payload) (b : Bool) (ys : List Fact)
        → purged (cond b [] (Received s n p ∷ []) ++ ys) s ≡ purged ys s
    over_p n p true ys = refl
    over_p n p false ys = refl

    over_c : (n : ℕ) (p : Payload) (b : Bool) (ys : List Fact)
        → flat_map (cursor_of s) (cond b [] (Received s n p ∷ []) ++ ys) ≡ flat_map (cursor_of s) ys
    over_c n p true ys = refl
    over_c n p false ys = refl

-- at the first that is held all goes that is passed
pub purged-new : (r : List Fact) (s : ℕ) → is_empty (passed r s) ≡ false → (before l : List Fact) → all_fit before l
    ≡ true
    → length (held before s) ≡ 0
    → 0 < length (held l s)
    → (purged (snapshot_from r before l) s ≡ passed r s)
    × (flat_map (cursor_of s) (snapshot_from r before l) ≡ one-cursor (passed r s))
purged-new r s some before [] fit none later = absurd (omega (arith, later))
purged-new r s some before (f ∷ l) fit none later =
    let parts = and_parts (fits before f) (all_fit (before ++ f ∷ []) l) fit in
    elim (got_kind s f) as (λ g k. fits before g ≡ true → all_fit (before ++ g ∷ []) l ≡ true
    → 0 < length (held (g ∷ l) s)
    → (purged (snapshot_from r before (g ∷ l)) s ≡ passed r s)
    × (flat_map (cursor_of s) (snapshot_from r before (g ∷ l)) ≡ one-cursor (passed r s))) [
      | a_message n p ↦ λ one rest lt.
          let after = before ++ Received s n p ∷ [] in
          let kept = cond (in_ranges (passed r s) n) [] (Received s n p ∷ []) in
          let ih = none-later r s some after l rest
          (omega (arith, held-more before (Received s n p) s, ap length (received-with s n p))) in
          let same : instead r before (Received s n p) l ≡ purged_with s (passed r s) ++ kept =
          ap (λ b. cond b (purged_with s (passed r s)) [] ++ kept) (none-empty (held before s) none) in (
            ap (λ xs. purged (xs ++ snapshot_from r after l) s) same
                ∙ flat_map-append (purged_of s) (purged_with s (passed r s) ++ kept) (snapshot_from r after l)
                ∙ ap (λ xs. purged (purged_with s (passed r s) ++ kept) s ++ xs) ih.0
                ∙ append-nil (purged (purged_with s (passed r s) ++ kept) s)
                ∙ flat_map-append (purged_of s) (purged_with s (passed r s)) kept
                ∙ ap (λ xs. xs ++ purged kept s) (purged-has s (passed r s))
                ∙ ap (λ xs. passed r s ++ xs) (over_p n p (in_ranges (passed r s) n))
                ∙ append-nil (passed r s),
            ap (λ xs. flat_map (cursor_of s) (xs ++ snapshot_from r after l)) same
                ∙ flat_map-append (cursor_of s) (purged_with s (passed r s) ++ kept) (snapshot_from r after l)
                ∙ ap (λ xs. flat_map (cursor_of s) (purged_with s (passed r s) ++ kept) ++ xs) ih.1
                ∙ append-nil (flat_map (cursor_of s) (purged_with s (passed r s) ++ kept))
                ∙ flat_map-append (cursor_of s) (purged_with s (passed r s)) kept
                ∙ ap (λ xs. xs ++ flat_map (cursor_of s) kept) (cursor-has s (passed r s))
                ∙ ap (λ xs. one-cursor (passed r s) ++ xs) (over_c n p (in_ranges (passed r s) n))
                ∙ append-nil (one-cursor (passed r s)),
          )
      | a_purge ranges ↦ λ one rest lt.
          let after = before ++ Purged s ranges ∷ [] in
          let ih = none-later r s some after l rest
          (omega (
            arith,
            held-more before (Purged s ranges) s,
            purge-some before s ranges one,
            ap (λ xs. length (numbers_in xs)) (got_with s ranges),
          )) in
          let same : instead r before (Purged s ranges) l ≡ purged_with s (passed r s) =
          ap (λ b. cond b (Purged s ranges ∷ []) (purged_with s (passed r s))) some in (
            ap (λ xs. purged (xs ++ snapshot_from r after l) s) same
                ∙ flat_map-append (purged_of s) (purged_with s (passed r s)) (snapshot_from r after l)
                ∙ ap (λ xs. purged (purged_with s (passed r s)) s ++ xs) ih.0
                ∙ append-nil (purged (purged_with s (passed r s)) s)
                ∙ purged-has s (passed r s),
            ap (λ xs. flat_map (cursor_of s) (xs ++ snapshot_from r after l)) same
                ∙ flat_map-append (cursor_of s) (purged_with s (passed r s)) (snapshot_from r after l)
                ∙ ap (λ xs. flat_map (cursor_of s) (purged_with s (passed r s)) ++ xs) ih.1
                ∙ append-nil (flat_map (cursor_of s) (purged_with s (passed r s)))
                ∙ cursor-has s (passed r s),
          )
      | a_consume upto ↦ λ one rest lt.
          let after = before ++ Consumed s upto ∷ [] in
          let ih = purged-new r s some after l rest (omega (arith, none, held-more before (Consumed s upto) s)) lt in
          let same : instead r before (Consumed s upto) l ≡ [] = ap (λ b. cond b (Consumed s upto ∷ []) []) some in (
            ap (λ xs. purged (xs ++ snapshot_from r after l) s) same ∙ ih.0,
            ap (λ xs. flat_map (cursor_of s) (xs ++ snapshot_from r after l)) same ∙ ih.1,
          )
      | besides g gots purges cursors ↦ λ one rest lt.
          let after = before ++ g ∷ [] in
          let no_p = purges g (refl, refl) in
          let no_r = gots g (refl, refl) in
          let still : length (held l s) ≡ length (held (g ∷ l) s) =
          ap (λ xs. length (numbers_of (gone_items (numbers_in (xs ++ purged l s)) ++ there_items (received l s))))
          (sym no_p)
          ∙ ap (λ xs. length (numbers_of (gone_items (numbers_in (purged (g ∷ l) s))
          ++ there_items (xs ++ received l s))))
          (sym no_r) in
          let ih = purged-new r s some after l rest
          (omega (arith, none, held-more before g s, ap (λ xs. length (numbers_in xs)) no_p, ap length no_r))
          (omega (arith, lt, still)) in (
            flat_map-append (purged_of s) (instead r before g l) (snapshot_from r after l)
                ∙ ap (λ xs. xs ++ purged (snapshot_from r after l) s)
                (quiet_in (purged_of s) g purges (instead r before g l) (like r before g l)) ∙ ih.0,
            flat_map-append (cursor_of s) (instead r before g l) (snapshot_from r after l)
                ∙ ap (λ xs. xs ++ flat_map (cursor_of s) (snapshot_from r after l))
                (quiet_in (cursor_of s) g cursors (instead r before g l) (like r before g l)) ∙ ih.1,
          )
    ] parts.0 parts.1 later
  where
    over_p : (n : ℕ) (p : Payload) (b : Bool) → purged (cond b [] (Received s n p ∷ [])) s ≡ []
    over_p n p true = refl
    over_p n p false = refl

    over_c : (n : ℕ) (p : Payload) (b : Bool) → flat_map (cursor_of s) (cond b [] (Received s n p ∷ [])) ≡ []
    over_c n p true = refl
    over_c n p false = refl
