-- The keys that wait at a node stay exactly those that wait by its records.
use Rattle.std.proofs.Common.{◌≡◌, ◌⊎◌, ℕ, zero, suc, ◌+◌, ◌<◌, ◌≤◌, ◌==◌, ◌&&◌, ◌||◌, not, nat_le, cond, Bool, true}
use Rattle.std.proofs.Common.{false}
use Rattle.std.proofs.Common.{List, [], ◌∷◌, ◌++◌, map, filter, refl, sym, ap, ap₂, ◌∙◌, subst, arith, inl, inr}
use Rattle.std.proofs.Common.{append-nil, append_assoc}
use Rattle.std.specs.Prelude.{Option, Some, None, slice_get}
use Rattle.std.proofs.lemmas.Bool.{and_parts, eqb-true, false≢true}
use Rattle.std.proofs.lemmas.Bool.Decides.{nat_tests}
use Rattle.rm_sides.specs.declared.ranges.range.Range.{Range}
use Rattle.rm_sides.specs.Ranges.Changes.{united, with_range}
use Rattle.rm_sides.specs.Ranges.Ranges.{in_range, in_ranges}
use Rattle.timers.specs.declared.slots.timers.Key.{Key}
use Rattle.timers.specs.Keys.Waits.{Wait, same_key, has_key, keys_of, at_key, without, moved_last, begun, urged, sent}
use Rattle.timers.specs.Keys.Waits.{begin_all}
use Rattle.timers.specs.Keys.KeyLemmas.{same_key-is, same_key-refl, same_key-sym}
use Rattle.timers.specs.Keys.Waits.{urge_all, send_all, emitted, put_into, fresh}
use Rattle.record_batch.specs.Fact.{Fact}
use Rattle.record_batch.specs.Snapshot.AckedLemmas.{acked-within}
use Rattle.record_batch.specs.Snapshot.Same.{SaysTheSame, SnapshotSaysTheSame}
use Rattle.record_batch.specs.Snapshot.Snapshot.{snapshot}
use Rattle.rm_base.specs.Numbered.{numbered}
use Rattle.record_batch.specs.Sequences.Makers.{Maker, Outgoing, Offered, Incoming, Taken, makers, maker}
use Rattle.record_batch.specs.Sequences.Sources.{accepted_count, acked, first_phase, is_sending, marks, out_ident}
use Rattle.record_batch.specs.Sequences.Sources.{phase}
use Rattle.record_batch.specs.Sequences.Words.{at_seq, last_or}
use Rattle.record_batch.specs.Sequences.Makers.{ident_in}
use Rattle.rm_sides.specs.Source.Outgoing.{Sending, accepted_count as count_of}
use Rattle.record_batch.specs.Sequences.Fits.{fits, all_fit}
use Rattle.record_batch.specs.Sequences.Told.{sending}
use Rattle.rm_protocol.specs.FitInduction.{creating-accepts-none}
use Rattle.rm_protocol.proofs.RangeLemmas.{canonical-has}
use Rattle.rm_protocol.proofs.WaitingLemmas.{one-begins, united-keeps, with_range-adds}
use Rattle.rm_protocol.specs.Exact.{AreExactly, AreWithin, StaysExactInShort}
use Rattle.rm_protocol.specs.Waiting.{Moves, is_waiting, begun_of, begun_by, still, waits_after, key, numbers_from}
use Rattle.rm_protocol.specs.Waiting.{is_requesting, key_count}
use Rattle.rm_protocol.specs.Waiting.{keys_at, keys_from, waiting_keys, mounted_waits, waits_in, waits_of}
use Rattle.rm_protocol.proofs.ListLemmas.{numbered-next}

-- ---- acknowledged numbers

pub all-within : (r : List Fact) → all_fit [] r ≡ true → AreWithin r
all-within r h s n e = acked-within [] r s n h (canonical-has (acked r s) n e)

-- ---- batches

fits-more : (xs base : List Fact) (g : Fact) → all_fit base xs ≡ true → fits (base ++ xs) g ≡ true
    → all_fit base (xs ++ g ∷ []) ≡ true
fits-more [] base g a b = rw (subst (λ z. fits z g ≡ true) (append-nil base) b) refl
fits-more (x ∷ xs) base g a b =
    let parts = and_parts (fits base x) (all_fit (base ++ x ∷ []) xs) a in
    rw (
      parts.0,
      fits-more xs (base ++ x ∷ []) g parts.1
          (subst (λ z. fits z g ≡ true) (sym (append_assoc base (x ∷ []) xs)) b),
    ) refl

has-append : (xs ys : List Key) (k : Key) → has_key (xs ++ ys) k ≡ (has_key xs k || has_key ys k)
has-append [] ys k = refl
has-append (x ∷ xs) ys k =
    ap (λ (b : Bool). same_key k x || b) (has-append xs ys k)
    ∙ elim (same_key k x) as (λ a. (a || (has_key xs k || has_key ys k)) ≡ ((a || has_key xs k) || has_key ys k)) [
      | true ↦ refl
      | false ↦ refl
    ]

or-back : (a b : Bool) → b ≡ true → (a || b) ≡ true
or-back true b h = refl
or-back false b h = h

or-front : (a b : Bool) → a ≡ true → (a || b) ≡ true
or-front true b h = refl
or-front false b h = absurd (cc)

-- a key that waits after a batch waited before it, or begins with it
pub batch-begins : (delta r : List Fact) (k : Key) → all_fit [] r ≡ true → all_fit r delta ≡ true
    → is_waiting (r ++ delta) k ≡ true → (is_waiting r k ≡ true) ⊎ (has_key (begun_by r delta) k ≡ true)
batch-begins [] r k h fit w = inl (subst (λ z. is_waiting z k ≡ true) (append-nil r) w)
batch-begins (f ∷ delta) r k h fit w =
    let parts = and_parts (fits r f) (all_fit (r ++ f ∷ []) delta) fit in
    let both = has-append (begun_of r f) (begun_by (r ++ f ∷ []) delta) k in
    elim (batch-begins delta (r ++ f ∷ []) k (fits-more r [] f h parts.0) parts.1
    (subst (λ z. is_waiting z k ≡ true) (sym (append_assoc r (f ∷ []) delta)) w)) [
      | inl x ↦ elim (one-begins r f k h parts.0 (λ s. creating-accepts-none r s h) x) [
        | inl y ↦ inl y
        | inr y ↦ inr (both ∙ or-front (has_key (begun_of r f) k) (has_key (begun_by (r ++ f ∷ []) delta) k) y)
      ]
      | inr x ↦ inr (both ∙ or-back (has_key (begun_of r f) k) (has_key (begun_by (r ++ f ∷ []) delta) k) x)
    ]

-- ---- the keys of plain lists

has-filter : (p : Key → Bool) (waits : List Wait) (k : Key)
    → has_key (keys_of (filter (λ (w : Wait). p w.key) waits)) k ≡ (has_key (keys_of waits) k && p k)
has-filter p [] k = refl
has-filter p (w ∷ waits) k =
    elim (p w.key) as (λ b. p w.key ≡ b
    → has_key (keys_of (cond b (w ∷ filter (λ (v : Wait). p v.key) waits) (filter (λ (v : Wait). p v.key) waits))) k
    ≡ ((same_key k w.key || has_key (keys_of waits) k) && p k)) [
      | true ↦ λ e.
          ap (λ (b : Bool). same_key k w.key || b) (has-filter p waits k)
          ∙ elim (same_key k w.key) as (λ b. same_key k w.key ≡ b
          → (b || (has_key (keys_of waits) k && p k)) ≡ ((b || has_key (keys_of waits) k) && p k)) [
            | true ↦ λ d. sym (ap p (same_key-is k w.key d) ∙ e)
            | false ↦ λ d. refl
          ] refl
      | false ↦ λ e.
          has-filter p waits k
          ∙ elim (same_key k w.key) as (λ b. same_key k w.key ≡ b
          → (has_key (keys_of waits) k && p k) ≡ ((b || has_key (keys_of waits) k) && p k)) [
            | true ↦ λ d.
                let no : p k ≡ false = ap p (same_key-is k w.key d) ∙ e in
                rw no (elim (has_key (keys_of waits) k) as (λ b. (b && false) ≡ false) [ true ↦ refl | false ↦ refl ])
            | false ↦ λ d. refl
          ] refl
    ] refl

keys-append : (xs ys : List Wait) → keys_of (xs ++ ys) ≡ keys_of xs ++ keys_of ys
keys-append [] ys = refl
keys-append (x ∷ xs) ys = ap (λ (v : List Key). x.key ∷ v) (keys-append xs ys)

keys-moved : (change : Wait → Wait) → ((w : Wait) → (change w).key ≡ w.key) → (waits : List Wait)
    → keys_of (map change waits) ≡ keys_of waits
keys-moved change same [] = refl
keys-moved change same (w ∷ waits) = ap₂ (λ (k : Key) (v : List Key). k ∷ v) (same w) (keys-moved change same waits)

split-or : (h x : Bool) → ((h && not x) || (h && x)) ≡ h
split-or true true = refl
split-or true false = refl
split-or false x = refl

has-moved : (change : Wait → Wait) → ((w : Wait) → (change w).key ≡ w.key) → (key : Key) (waits : List Wait) (k : Key)
    → has_key (keys_of (moved_last change key waits)) k ≡ has_key (keys_of waits) k
has-moved change same key waits k =
    ap (λ (v : List Key). has_key v k) (keys-append (without key waits) (map change (at_key key waits))
    ∙ ap (λ (v : List Key). keys_of (without key waits) ++ v) (keys-moved change same (at_key key waits)))
    ∙ has-append (keys_of (without key waits)) (keys_of (at_key key waits)) k
    ∙ ap₂ (λ (a b : Bool). a || b) (has-filter (λ (j : Key). not (same_key key j)) waits k)
    (has-filter (λ (j : Key). same_key key j) waits k)
    ∙ split-or (has_key (keys_of waits) k) (same_key key k)

has-urged : (keys : List Key) (waits : List Wait) (k : Key)
    → has_key (keys_of (urge_all keys waits)) k ≡ has_key (keys_of waits) k
has-urged [] waits k = refl
has-urged (x ∷ keys) waits k =
    has-urged keys (urged x waits) k ∙ has-moved (put_into 0 0) (λ w. refl) x waits k

has-sent : (time : ℕ) (keys : List Key) (waits : List Wait) (k : Key)
    → has_key (keys_of (send_all time keys waits)) k ≡ has_key (keys_of waits) k
has-sent time [] waits k = refl
has-sent time (x ∷ keys) waits k =
    has-sent time keys (sent time x waits) k ∙ has-moved (emitted time) (λ w. refl) x waits k

begun-or : (h x : Bool) → ((h && not x) || (x || false)) ≡ (x || h)
begun-or true true = refl
begun-or true false = refl
begun-or false true = refl
begun-or false false = refl

has-begun : (key : Key) (waits : List Wait) (k : Key)
    → has_key (keys_of (begun key waits)) k ≡ (same_key k key || has_key (keys_of waits) k)
has-begun key waits k =
    ap (λ (v : List Key). has_key v k) (keys-append (without key waits) (record { key = key; class = 0; due = 0 } ∷ []))
    ∙ has-append (keys_of (without key waits)) (key ∷ []) k
    ∙ ap (λ (b : Bool). b || (same_key k key || false)) (has-filter (λ (j : Key). not (same_key key j)) waits k
    ∙ ap (λ (b : Bool). has_key (keys_of waits) k && not b) (same_key-sym key k))
    ∙ begun-or (has_key (keys_of waits) k) (same_key k key)

swap-or : (a b c : Bool) → (a || (b || c)) ≡ ((b || a) || c)
swap-or true true c = refl
swap-or true false c = refl
swap-or false true c = refl
swap-or false false c = refl

has-begin : (keys : List Key) (waits : List Wait) (k : Key)
    → has_key (keys_of (begin_all keys waits)) k ≡ (has_key keys k || has_key (keys_of waits) k)
has-begin [] waits k = refl
has-begin (x ∷ keys) waits k =
    has-begin keys (begun x waits) k ∙ ap (λ (b : Bool). has_key keys k || b) (has-begun x waits k)
    ∙ swap-or (has_key keys k) (same_key k x) (has_key (keys_of waits) k)

-- ---- a call

exact-or : (x y z : Bool) → (z ≡ true → (x ≡ true) ⊎ (y ≡ true)) → (y ≡ true → z ≡ true) → (y || (x && z)) ≡ z
exact-or true true true h g = refl
exact-or true false true h g = refl
exact-or false true true h g = refl
exact-or false false true h g = elim (h refl) [ inl e ↦ absurd (cc) | inr e ↦ absurd (cc) ]
exact-or true true false h g = absurd (false≢true (g refl))
exact-or true false false h g = refl
exact-or false true false h g = absurd (false≢true (g refl))
exact-or false false false h g = refl

pub exact-after : (r delta : List Fact) (moves : Moves) (time : ℕ) (waits : List Wait) → all_fit [] r ≡ true
    → all_fit r delta ≡ true
    → ((k : Key) → has_key (begun_by r delta) k ≡ true → is_waiting (r ++ delta) k ≡ true)
    → AreExactly r waits → AreExactly (r ++ delta) (waits_after r delta moves time waits)
exact-after r delta moves time waits h fit begins exact k =
    has-sent time (begun_by r delta ++ moves.emitted) _ k
    ∙ has-urged moves.urged _ k
    ∙ has-begin (begun_by r delta) (still (r ++ delta) waits) k
    ∙ ap (λ (b : Bool). has_key (begun_by r delta) k || b)
    (has-filter (is_waiting (r ++ delta)) waits k
    ∙ ap (λ (b : Bool). b && is_waiting (r ++ delta) k) (exact k))
    ∙ exact-or (is_waiting r k) (has_key (begun_by r delta) k) (is_waiting (r ++ delta) k)
    (batch-begins delta r k h fit) (begins k)

-- ---- a mount

has-numbers : (s from count i : ℕ) → from ≤ i → i < from + count
    → has_key (map (key s) (numbers_from from count)) (key s i) ≡ true
has-numbers s from zero i le lt = absurd (omega arith)
has-numbers s from (suc count) i le lt =
    elim (from == i) as (λ b. (from == i) ≡ b
    → has_key (map (key s) (numbers_from from (suc count))) (key s i) ≡ true) [
      | true ↦ λ e.
          let is : from ≡ i = eqb-true from i e in
          or-front (same_key (key s i) (key s from)) (has_key (map (key s) (numbers_from (from + 1) count)) (key s i))
          (subst (λ n. same_key (key s i) (key s n) ≡ true) (sym is) (same_key-refl (key s i)))
      | false ↦ λ e.
          let other : from + 1 ≤ i = grind (arith, nat_tests, e, le) in
          or-back (same_key (key s i) (key s from)) (has_key (map (key s) (numbers_from (from + 1) count)) (key s i))
          (has-numbers s (from + 1) count i other (omega arith))
    ] refl

has-from : (r : List Fact) (ms : List Maker) (n j : ℕ) (m : Maker) (k : Key) → slice_get ms j ≡ Some m
    → k.seq ≡ n + 1 + j → k.number < key_count r k.seq m → has_key (keys_from r n ms) k ≡ true
has-from r [] n j m k e at lt = absurd (cc)
has-from r (x ∷ ms) n zero m k e at lt =
    let is : x ≡ m = cc in
    let place : k.seq ≡ n + 1 = omega (arith, at) in
    let here : has_key (map (key k.seq) (numbers_from 0 (key_count r k.seq x))) (key k.seq k.number) ≡ true =
    has-numbers k.seq 0 (key_count r k.seq x) k.number (omega arith)
    (subst (λ z. k.number < 0 + key_count r k.seq z) (sym is) (omega (arith, lt))) in
    has-append (keys_at r (n + 1) x) (keys_from r (n + 1) ms) k
    ∙ or-front (has_key (keys_at r (n + 1) x) k) (has_key (keys_from r (n + 1) ms) k)
    (subst (λ s. has_key (map (key s) (numbers_from 0 (key_count r s x))) k ≡ true) place here)
has-from r (x ∷ ms) n (suc j) m k e at lt =
    has-append (keys_at r (n + 1) x) (keys_from r (n + 1) ms) k
    ∙ or-back (has_key (keys_at r (n + 1) x) k) (has_key (keys_from r (n + 1) ms) k)
    (has-from r ms (n + 1) j m k e (omega (arith, at)) lt)

counted : (r : List Fact) (s i : ℕ) → waits_in (sending r s) i ≡ true → i < accepted_count r s + 1
counted r s zero h = omega arith
counted r s (suc i) h =
    let one = and_parts (is_sending (phase r s)) _ h in
    let two = and_parts (nat_le (suc i) (accepted_count r s)) _ one.1 in
    grind (arith, nat_tests, two.0)

waiting-there : (r : List Fact) (k : Key) (x : Option Maker) → maker r k.seq ≡ x
    → waits_of r k.seq k.number x ≡ true → has_key (keys_from r 0 (makers r)) k ≡ true
waiting-there r k None e w = absurd (false≢true w)
waiting-there r k (Some m) e w = by_seq k.seq refl
  where
    few : (z : Maker) → waits_of r k.seq k.number (Some z) ≡ true → k.number < key_count r k.seq z
    few (Outgoing t to v l) h = counted r k.seq k.number h
    few (Taken t q p) h = counted r k.seq k.number h
    few (Offered t c to y) h = absurd (false≢true h)
    few (Incoming c t p y d l) h = absurd (false≢true h)

    by_seq : (s : ℕ) → k.seq ≡ s → has_key (keys_from r 0 (makers r)) k ≡ true
    by_seq zero d =
        let none : numbered (makers r) 0 ≡ Some m = subst (λ s. numbered (makers r) s ≡ Some m) d e in absurd (cc)
    by_seq (suc j) d =
        let there : slice_get (makers r) j ≡ Some m =
        sym (numbered-next (makers r) j) ∙ subst (λ s. numbered (makers r) s ≡ Some m) d e in
        has-from r (makers r) 0 j m k there (omega (arith, d)) (few m w)

keys-fresh : (keys : List Key) → keys_of (fresh keys) ≡ keys
keys-fresh [] = refl
keys-fresh (k ∷ keys) = ap (λ (v : List Key). k ∷ v) (keys-fresh keys)

has-those : (p : Key → Bool) (keys : List Key) (k : Key) → has_key (filter p keys) k ≡ (has_key keys k && p k)
has-those p keys k =
    ap (λ (v : List Key). has_key v k) (sym (keys-fresh (filter p keys)) ∙ ap keys_of (fresh-filter p keys))
    ∙ has-filter p (fresh keys) k
    ∙ ap (λ (v : List Key). has_key v k && p k) (keys-fresh keys)
  where
    fresh-filter : (p : Key → Bool) (keys : List Key)
        → fresh (filter p keys) ≡ filter (λ (w : Wait). p w.key) (fresh keys)
    fresh-filter p [] = refl
    fresh-filter p (x ∷ keys) =
        elim (p x) as (λ b. fresh (cond b (x ∷ filter p keys) (filter p keys))
        ≡ cond b (record { key = x; class = 0; due = 0 } ∷ filter (λ (w : Wait). p w.key) (fresh keys))
        (filter (λ (w : Wait). p w.key) (fresh keys))) [
          | true ↦ ap (λ (v : List Wait). record { key = x; class = 0; due = 0 } ∷ v) (fresh-filter p keys)
          | false ↦ fresh-filter p keys
        ]

pub exact-mounted : (r : List Fact) → AreExactly r (mounted_waits r)
exact-mounted r k =
    ap (λ (v : List Key). has_key v k) (keys-fresh (waiting_keys r))
    ∙ has-those (is_waiting r) (keys_from r 0 (makers r)) k
    ∙ elim (is_waiting r k) as (λ b. is_waiting r k ≡ b → (has_key (keys_from r 0 (makers r)) k && b) ≡ b) [
      | true ↦ λ e. rw (waiting-there r k (maker r k.seq) refl e) refl
      | false ↦ λ e. elim (has_key (keys_from r 0 (makers r)) k) as (λ x. (x && false) ≡ false) [
        | true ↦ refl
        | false ↦ refl
      ]
    ] refl

-- what records say in short leaves what waits
waits-by : (t u : Sending) → t.phase ≡ u.phase → count_of t ≡ count_of u
    → ((n : ℕ) → in_ranges t.acked n ≡ in_ranges u.acked n) → (i : ℕ) → waits_in t i ≡ waits_in u i
waits-by t u phases counts acks zero = ap is_requesting phases
waits-by t u phases counts acks (suc i) =
    ap (λ p. is_sending p && (nat_le (suc i) (count_of t) && not (in_ranges t.acked (suc i)))) phases
    ∙ ap (λ n. is_sending u.phase && (nat_le (suc i) n && not (in_ranges t.acked (suc i)))) counts
    ∙ ap (λ b. is_sending u.phase && (nat_le (suc i) (count_of u) && not b)) (acks (suc i))

-- a union has the numbers of ranges
united-adds : (xs ys : List Range) (n : ℕ) → in_ranges ys n ≡ true → in_ranges (united xs ys) n ≡ true
united-adds xs [] n e = absurd (cc)
united-adds xs (y ∷ ys) n e = elim (in_range y n) as (λ b. in_range y n ≡ b → (b || in_ranges ys n) ≡ true
    → in_ranges (united (with_range xs y.lower y.upper) ys) n ≡ true) [
      | true ↦ λ d k. united-keeps (with_range xs y.lower y.upper) ys n (with_range-adds xs y.lower y.upper n d)
      | false ↦ λ d k. united-adds (with_range xs y.lower y.upper) ys n k
    ] refl e

united-same : (xs : List Range) (n : ℕ) → in_ranges (united [] xs) n ≡ in_ranges xs n
united-same xs n = same (in_ranges (united [] xs) n) (in_ranges xs n) (canonical-has xs n) (united-adds [] xs n)
  where
    same : (a b : Bool) → (a ≡ true → b ≡ true) → (b ≡ true → a ≡ true) → a ≡ b
    same true b f g = sym (f refl)
    same false true f g = g refl
    same false false f g = refl

-- lists that say the same have the same keys waiting
waits-same : (q r : List Fact) → SaysTheSame q r → (k : Key) → is_waiting q k ≡ is_waiting r k
waits-same q r says k =
    ap (λ (ms : List Maker). waits_of q k.seq k.number (numbered ms k.seq)) says.frame.makers_
    ∙ by_maker (maker r k.seq)
  where
    phases : phase q k.seq ≡ phase r k.seq
    phases =
        ap (λ cs. last_or (first_phase (ident_in cs k.seq)) (marks q k.seq)) says.frame.created_
        ∙ ap (λ ms. last_or (first_phase (out_ident r k.seq)) (at_seq k.seq ms)) says.frame.marks_

    same : waits_in (sending q k.seq) k.number ≡ waits_in (sending r k.seq) k.number
    same = waits-by (sending q k.seq) (sending r k.seq) phases (says.sent k.seq).count
        (λ n. united-same (acked q k.seq) n ∙ (says.sent k.seq).acked_ n ∙ sym (united-same (acked r k.seq) n)) k.number

    by_maker : (m : Option Maker) → waits_of q k.seq k.number m ≡ waits_of r k.seq k.number m
    by_maker None = refl
    by_maker (Some (Outgoing ticket to via lapse)) = same
    by_maker (Some (Taken message_id ident endpoint)) = same
    by_maker (Some (Incoming counter message_id acks_to behaviour deadline lapse)) = refl
    by_maker (Some (Offered ticket counter to behaviour)) = refl

pub exact-in-short : SnapshotSaysTheSame → StaysExactInShort
exact-in-short law r waits fit proper exact k = exact k ∙ sym (waits-same (snapshot r) r (law r fit proper) k)
