-- How many keys wait at a node.
use Rattle.std.proofs.Common.{◌≡◌, ℕ, zero, suc, ◌+◌, ◌-◌, ◌<◌, ◌≤◌, ◌==◌, ◌||◌, not, nat_le, cond, Bool, true, false}
use Rattle.std.proofs.Common.{List, []}
use Rattle.std.proofs.Common.{◌∷◌, ◌++◌, length, map, filter, refl, sym, ap, ap₂, ◌∙◌, subst, arith, length-append}
use Rattle.std.proofs.Common.{append_assoc}
use Rattle.std.specs.Prelude.{Some, None, slice_get}
use Rattle.std.proofs.lemmas.Bool.{and_parts}
use Rattle.std.proofs.lemmas.Bool.Decides.{nat_tests}
use Rattle.std.proofs.lemmas.List.Elements.{filter-append}
use Rattle.std.proofs.lemmas.List.Sums.{sum_by-cons}
use Rattle.rm_sides.specs.declared.ranges.range.Range.{Range}
use Rattle.rm_sides.specs.Ranges.Ranges.{RisesFrom, IsCanonical, in_range, in_ranges, count_of, size_of}
use Rattle.rm_sides.specs.Source.Outgoing.{Sending, accepted_count as count_in}
use Rattle.record_batch.specs.Fact.{Fact}
use Rattle.rm_base.specs.Numbered.{numbered}
use Rattle.rm_sides.specs.Ranges.Laws.{RangeIsAdded}
use Rattle.rm_protocol.specs.Exact.{AckedWereAccepted}
use Rattle.record_batch.specs.Sequences.Makers.{Maker, Outgoing, Offered, Incoming, Taken, makers, maker}
use Rattle.record_batch.specs.Sequences.Sources.{accepted_count, acked, is_sending, unacked_at, unacked_from}
use Rattle.record_batch.specs.Sequences.Told.{sending}
use Rattle.node_laws.specs.Records.{HasRoomForKeys}
use Rattle.node_laws.proofs.Counts.{united-canonical}
use Rattle.node_laws.proofs.Unacked.{acked-proper}
use Rattle.rm_protocol.specs.Waiting.{key, numbers_from, waits_in, waits_of, is_waiting, keys_at, keys_from}

-- the numbers that are in no range
abbrev outside : List Range → List ℕ → List ℕ
outside rs ns = filter (λ (i : ℕ). not (in_ranges rs i)) ns

numbers-split : (i a b : ℕ) → numbers_from i (a + b) ≡ numbers_from i a ++ numbers_from (i + a) b
numbers-split i zero b =
    let none : 0 + b ≡ b = omega arith in
    let same : i ≡ i + 0 = omega arith in
    ap (numbers_from i) none ∙ ap (λ (j : ℕ). numbers_from j b) same
numbers-split i (suc a) b =
    let more : suc a + b ≡ suc (a + b) = omega arith in
    let place : (i + 1) + a ≡ i + suc a = omega arith in
    ap (numbers_from i) more ∙ ap (λ (v : List ℕ). i ∷ v) (numbers-split (i + 1) a b)
    ∙ ap (λ (j : ℕ). numbers_from i (suc a) ++ numbers_from j b) place

few-outside : (rs : List Range) (i c : ℕ) → length (outside rs (numbers_from i c)) ≤ c
few-outside rs i zero = omega arith
few-outside rs i (suc c) =
    let rest = few-outside rs (i + 1) c in
    elim (in_ranges rs i) as (λ b. length (cond (not b) (i ∷ outside rs (numbers_from (i + 1) c))
    (outside rs (numbers_from (i + 1) c))) ≤ suc c) [
      | true ↦ omega (arith, rest)
      | false ↦ omega (arith, rest)
    ]

outside-behind : (r : Range) (rs : List Range) (i c : ℕ) → r.upper < i
    → outside (r ∷ rs) (numbers_from i c) ≡ outside rs (numbers_from i c)
outside-behind r rs i zero lt = refl
outside-behind r rs i (suc c) lt =
    let other : in_range r i ≡ false = grind (arith, nat_tests, lt) in
    let rest = outside-behind r rs (i + 1) c (omega (arith, lt)) in
    rw other (ap (λ (v : List ℕ). cond (not (in_ranges rs i)) (i ∷ v) v) rest)

outside-within : (r : Range) (rs : List Range) (i c : ℕ) → r.lower ≤ i → i + c ≤ r.upper + 1
    → outside (r ∷ rs) (numbers_from i c) ≡ []
outside-within r rs i zero le lt = refl
outside-within r rs i (suc c) le lt =
    let here : in_range r i ≡ true = grind (arith, nat_tests, le, lt) in
    let rest = outside-within r rs (i + 1) c (omega (arith, le)) (omega (arith, lt)) in
    rw here rest

lower-first : (a b : ℕ) (rs : List Range) → a ≤ b → RisesFrom b rs → RisesFrom a rs
lower-first a b [] le h = tt
lower-first a b (r ∷ rs) le h = (omega (arith, le, h.0), h.1, h.2, h.3)

-- the numbers outside, with those inside, are at most all
pub counted-outside : (rs : List Range) (low c : ℕ) → RisesFrom low rs
    → ((n : ℕ) → in_ranges rs n ≡ true → n < low + c)
    → length (outside rs (numbers_from low c)) + count_of rs ≤ c
counted-outside [] low c h all = let few = few-outside [] low c in omega (arith, few)
counted-outside (r ∷ rs) low c h all =
    let top : in_range r r.upper ≡ true = let le = h.1 in grind (arith, nat_tests, le) in
    let high : r.upper < low + c = all r.upper (ap (λ (b : Bool). b || in_ranges rs r.upper) top) in
    let a = r.lower - low in
    let b = r.upper + 1 - r.lower in
    let d = low + c - (r.upper + 1) in
    let whole : c ≡ a + (b + d) = omega (arith, h.0, h.1, high) in
    let first : low + a ≡ r.lower = omega (arith, h.0) in
    let second : r.lower + b ≡ r.upper + 1 = omega (arith, h.1) in
    let parts : numbers_from low c ≡ numbers_from low a ++ (numbers_from r.lower b ++ numbers_from (r.upper + 1) d) =
    ap (numbers_from low) whole ∙ numbers-split low a (b + d)
    ∙ ap (λ (j : ℕ). numbers_from low a ++ numbers_from j (b + d)) first
    ∙ ap (λ (v : List ℕ). numbers_from low a ++ v) (numbers-split r.lower b d
    ∙ ap (λ (j : ℕ). numbers_from r.lower b ++ numbers_from j d) second) in
    let p : ℕ → Bool = λ i. not (in_ranges (r ∷ rs) i) in
    let split : outside (r ∷ rs) (numbers_from low c)
    ≡ outside (r ∷ rs) (numbers_from low a) ++ (outside (r ∷ rs) (numbers_from r.lower b)
    ++ outside (r ∷ rs) (numbers_from (r.upper + 1) d)) =
    ap (outside (r ∷ rs)) parts
    ∙ filter-append p (numbers_from low a) (numbers_from r.lower b ++ numbers_from (r.upper + 1) d)
    ∙ ap (λ (v : List ℕ). outside (r ∷ rs) (numbers_from low a) ++ v)
    (filter-append p (numbers_from r.lower b) (numbers_from (r.upper + 1) d)) in
    let none : outside (r ∷ rs) (numbers_from r.lower b) ≡ [] =
    outside-within r rs r.lower b (omega arith) (omega (arith, second)) in
    let behind : outside (r ∷ rs) (numbers_from (r.upper + 1) d) ≡ outside rs (numbers_from (r.upper + 1) d) =
    outside-behind r rs (r.upper + 1) d (omega arith) in
    let front = few-outside (r ∷ rs) low a in
    let rest = counted-outside rs (r.upper + 1) d (lower-first (r.upper + 1) (r.upper + 2) rs (omega arith) h.3)
    (λ n e. let m = all n (or-back (in_range r n) (in_ranges rs n) e) in omega (arith, m, high)) in
    let long : length (outside (r ∷ rs) (numbers_from low c))
    ≡ length (outside (r ∷ rs) (numbers_from low a)) + length (outside rs (numbers_from (r.upper + 1) d)) =
    ap length (split ∙ ap₂ (λ (v w : List ℕ). outside (r ∷ rs) (numbers_from low a) ++ (v ++ w)) none behind)
    ∙ length-append (outside (r ∷ rs) (numbers_from low a)) (outside rs (numbers_from (r.upper + 1) d)) in
    let count : count_of (r ∷ rs) ≡ b + count_of rs = sum_by-cons size_of r rs in
    omega (arith, long, front, rest, whole, count)
  where
    or-back : (x y : Bool) → y ≡ true → (x || y) ≡ true
    or-back true y e = refl
    or-back false y e = e

-- ---- of one sequence

outside-by : (t : Sending) (i : ℕ) → 1 ≤ i → waits_in t i ≡ true
    → (is_sending t.phase ≡ true) × (in_ranges t.acked i ≡ false)
outside-by t zero le h = absurd (omega arith)
outside-by t (suc i) le h =
    let one = and_parts (is_sending t.phase) _ h in
    let two = and_parts (nat_le (suc i) (count_in t)) (not (in_ranges t.acked (suc i))) one.1 in
    (one.0, not-true (in_ranges t.acked (suc i)) two.1)
  where
    not-true : (b : Bool) → not b ≡ true → b ≡ false
    not-true true e = absurd (cc)
    not-true false e = refl

few-waits : (t : Sending) (i c : ℕ) → 1 ≤ i → length (filter (waits_in t) (numbers_from i c))
    ≤ cond (is_sending t.phase) (length (outside t.acked (numbers_from i c))) 0
few-waits t i zero le = elim (is_sending t.phase) as (λ b. 0 ≤ cond b 0 0) [ true ↦ omega arith | false ↦ omega arith ]
few-waits t i (suc c) le =
    let rest = few-waits t (i + 1) c (omega arith) in
    elim (waits_in t i) as (λ b. waits_in t i ≡ b
    → length (cond b (i ∷ filter (waits_in t) (numbers_from (i + 1) c)) (filter (waits_in t) (numbers_from (i + 1) c)))
    ≤ cond (is_sending t.phase) (length (outside t.acked (numbers_from i (suc c)))) 0) [
      | true ↦ λ e.
          let out = outside-by t i le e in
          let less : length (filter (waits_in t) (numbers_from (i + 1) c))
          ≤ length (outside t.acked (numbers_from (i + 1) c)) =
          subst (λ b. length (filter (waits_in t) (numbers_from (i + 1) c))
          ≤ cond b (length (outside t.acked (numbers_from (i + 1) c))) 0) out.0 rest in
          rw (out.0, out.1) (omega (arith, less))
      | false ↦ λ e. by_sending (is_sending t.phase) rest
    ] refl
  where
    by_sending : (b : Bool) → length (filter (waits_in t) (numbers_from (i + 1) c))
        ≤ cond b (length (outside t.acked (numbers_from (i + 1) c))) 0
        → length (filter (waits_in t) (numbers_from (i + 1) c))
        ≤ cond b (length (outside t.acked (numbers_from i (suc c)))) 0
    by_sending false h = h
    by_sending true h = elim (in_ranges t.acked i) as (λ x. length (filter (waits_in t) (numbers_from (i + 1) c))
        ≤ length (cond (not x) (i ∷ outside t.acked (numbers_from (i + 1) c))
        (outside t.acked (numbers_from (i + 1) c)))) [
          | true ↦ h
          | false ↦ omega (arith, h)
        ]

-- at most its messages that are not acknowledged, where they are sent again, and its request
pub sequence-few : (t : Sending) → IsCanonical t.acked
    → ((n : ℕ) → in_ranges t.acked n ≡ true → n ≤ count_in t)
    → length (filter (waits_in t) (numbers_from 0 (count_in t + 1)))
    ≤ cond (is_sending t.phase) (count_in t - count_of t.acked) 0 + 1
sequence-few t canonical within =
    let n = count_in t in
    let all = counted-outside t.acked 1 n canonical (λ i e. let le = within i e in omega (arith, le)) in
    let some = few-waits t 1 n (omega arith) in
    let one : n + 1 ≡ suc n = omega arith in
    subst (λ c. length (filter (waits_in t) (numbers_from 0 c))
    ≤ cond (is_sending t.phase) (n - count_of t.acked) 0 + 1)
    (sym one) (by_first (waits_in t 0) (is_sending t.phase) some all)
  where
    by_first : (x y : Bool)
        → length (filter (waits_in t) (numbers_from 1 (count_in t)))
        ≤ cond y (length (outside t.acked (numbers_from 1 (count_in t)))) 0
        → length (outside t.acked (numbers_from 1 (count_in t))) + count_of t.acked ≤ count_in t
        → length (cond x (0 ∷ filter (waits_in t) (numbers_from 1 (count_in t)))
        (filter (waits_in t) (numbers_from 1 (count_in t))))
        ≤ cond y (count_in t - count_of t.acked) 0 + 1
    by_first true true a b = omega (arith, a, b)
    by_first true false a b = omega (arith, a)
    by_first false true a b = omega (arith, a, b)
    by_first false false a b = omega (arith, a)

-- ---- of all sequences

filter-keys : (r : List Fact) (s : ℕ) (t : Sending) → ((i : ℕ) → is_waiting r (key s i) ≡ waits_in t i) → (ns : List ℕ)
    → length (filter (is_waiting r) (map (key s) ns)) ≡ length (filter (waits_in t) ns)
filter-keys r s t same [] = refl
filter-keys r s t same (n ∷ ns) =
    let rest = filter-keys r s t same ns in
    ap (λ (b : Bool). length (cond b (key s n ∷ filter (is_waiting r) (map (key s) ns))
    (filter (is_waiting r) (map (key s) ns))))
    (same n)
    ∙ elim (waits_in t n) as (λ b. length (cond b (key s n ∷ filter (is_waiting r) (map (key s) ns))
    (filter (is_waiting r) (map (key s) ns))) ≡ length (cond b (n ∷ filter (waits_in t) ns) (filter (waits_in t) ns))) [
      | true ↦ ap suc rest
      | false ↦ rest
    ]

-- what holds of the numbers that are acknowledged, for each sequence
record AreNumbers (r : List Fact) : Type 0 where
  canonical : (s : ℕ) → IsCanonical (sending r s).acked
  within : (s n : ℕ) → in_ranges (sending r s).acked n ≡ true → n ≤ accepted_count r s

own-few : (r : List Fact) (s : ℕ) (m : Maker) → AreNumbers r → maker r s ≡ Some m
    → length (filter (is_waiting r) (keys_at r s m)) ≤ unacked_at r s m + 1
own-few r s (Outgoing t to v l) h e =
    let few = sequence-few (sending r s) (h.canonical s) (h.within s) in
    let same = filter-keys r s (sending r s) (λ i. ap (waits_of r s i) e)
    (numbers_from 0 (accepted_count r s + 1)) in
    omega (arith, few, same)
own-few r s (Taken t q p) h e =
    let few = sequence-few (sending r s) (h.canonical s) (h.within s) in
    let same = filter-keys r s (sending r s) (λ i. ap (waits_of r s i) e)
    (numbers_from 0 (accepted_count r s + 1)) in
    omega (arith, few, same)
own-few r s (Offered t c to y) h e = omega arith
own-few r s (Incoming c t p y d l) h e = omega arith

got-here : (before : List Maker) (m : Maker) (ms : List Maker) → slice_get (before ++ m ∷ ms) (length before) ≡ Some m
got-here [] m ms = refl
got-here (x ∷ before) m ms = got-here before m ms

numbered-here : (before : List Maker) (m : Maker) (ms : List Maker)
    → numbered (before ++ m ∷ ms) (length before + 1) ≡ Some m
numbered-here before m ms =
    let other : ((length before + 1) == 0) ≡ false = grind (arith, nat_tests) in
    let less : length before + 1 - 1 ≡ length before = omega arith in
    ap₂ (λ (b : Bool) (j : ℕ). cond b None (slice_get (before ++ m ∷ ms) j)) other less ∙ got-here before m ms

from-few : (r : List Fact) (before ms : List Maker) → AreNumbers r → makers r ≡ before ++ ms
    → length (filter (is_waiting r) (keys_from r (length before) ms)) ≤ unacked_from r (length before) ms + length ms
from-few r before [] h e = omega arith
from-few r before (m ∷ ms) h e =
    let k = length before in
    let at : maker r (k + 1) ≡ Some m =
    ap (λ (v : List Maker). numbered v (k + 1)) e ∙ numbered-here before m ms in
    let one = own-few r (k + 1) m h at in
    let longer : length (before ++ m ∷ []) ≡ k + 1 = length-append before (m ∷ []) in
    let rest : length (filter (is_waiting r) (keys_from r (k + 1) ms)) ≤ unacked_from r (k + 1) ms + length ms =
    subst (λ n. length (filter (is_waiting r) (keys_from r n ms)) ≤ unacked_from r n ms + length ms) longer
    (from-few r (before ++ m ∷ []) ms h (e ∙ sym (append_assoc before (m ∷ []) ms))) in
    let split : length (filter (is_waiting r) (keys_from r k (m ∷ ms)))
    ≡ length (filter (is_waiting r) (keys_at r (k + 1) m)) + length (filter (is_waiting r) (keys_from r (k + 1) ms)) =
    ap length (filter-append (is_waiting r) (keys_at r (k + 1) m) (keys_from r (k + 1) ms))
    ∙ length-append (filter (is_waiting r) (keys_at r (k + 1) m)) (filter (is_waiting r) (keys_from r (k + 1) ms)) in
    omega (arith, one, rest, split)

pub room-for-keys : RangeIsAdded → AckedWereAccepted → HasRoomForKeys
room-for-keys law acked_ r h =
    let few = from-few r [] (makers r) (record {
      canonical = λ s. united-canonical law [] (acked r s) tt (acked-proper s [] r h.node.fit h.values);
      within = acked_ r h.node.fit;
    }) refl in
    omega (arith, few, h.node.windows, h.node.sequences)
