-- Keys that begin to wait, one after the other.
use Rattle.std.proofs.Common.{◌≡◌, ℕ, zero, suc, ◌+◌, ◌-◌, ◌<◌, ◌≤◌, ◌==◌, cond, Bool, true, false, List, [], ◌∷◌}
use Rattle.std.proofs.Common.{◌++◌, map, filter, length, drop, refl, sym, ap, ap₂, ◌∙◌, subst, arith, append-nil}
use Rattle.std.proofs.Common.{append_assoc, length-append, Option, Some, None}
use Rattle.std.specs.Prelude.{slice_get}
use Rattle.std.specs.List.{AllByRecursion}
use Rattle.std.proofs.lemmas.Bool.{ne_eqb}
use Rattle.std.proofs.lemmas.Bool.Decides.{nat_tests}
use Rattle.std.proofs.lemmas.List.{map-append}
use Rattle.std.proofs.lemmas.List.Elements.{filter-append}
use Rattle.rm_base.specs.Numbered.{numbered}
use Rattle.timers.specs.declared.slots.timers.Key.{Key}
use Rattle.timers.specs.Keys.Keyed.{Keyed, StandsFor, keys_in, is_before}
use Rattle.timers.specs.Keys.Waits.{Wait, fresh}
use Rattle.record_batch.specs.Fact.{Fact}
use Rattle.record_batch.specs.Sequences.Makers.{Maker, makers, maker}
use Rattle.rm_protocol.specs.Waiting.{key, is_waiting, numbers_from, keys_at, keys_from}
use Rattle.node_waits.specs.Keys.Settled.{count_of}
use Rattle.node_waits.specs.Keys.Filled.{AllBefore, Filled, own_waiting}

-- some first of all keys began to wait; these are left
pub record Part (old new : Keyed) (rest all : List Key) : Type 0 where
  pub done : List Key
  pub filled : Filled old new done
  pub are : done ++ rest ≡ all

pub part-none : (old : Keyed) (all : List Key) → Part old old all all
part-none old all = record {
  done = [];
  filled = record {
    cells = sym (append-nil (keys_in old.cells));
    waits = λ waits st. subst (StandsFor old) (sym (append-nil waits)) st;
    time = refl;
  };
  are = refl;
}

fresh-append : (xs ys : List Key) → fresh (xs ++ ys) ≡ fresh xs ++ fresh ys
fresh-append xs ys = map-append (λ (k : Key). record { key = k; class = 0; due = 0 }) xs ys

-- more of them
pub filled-more : (old mid new : Keyed) (xs ys : List Key) → Filled old mid xs → Filled mid new ys
    → Filled old new (xs ++ ys)
filled-more old mid new xs ys h k = record {
  cells = k.cells ∙ ap (λ (v : List Key). v ++ ys) h.cells ∙ append_assoc (keys_in old.cells) xs ys;
  waits = λ waits st. subst (StandsFor new)
      (append_assoc waits (fresh xs) (fresh ys) ∙ ap (λ (v : List Wait). waits ++ v) (sym (fresh-append xs ys)))
      (k.waits (waits ++ fresh xs) (h.waits waits st));
  time = k.time ∙ h.time;
}

pub part-more : (old mid new : Keyed) (ys rest all left : List Key) → Part old mid left all → left ≡ ys ++ rest
    → Filled mid new ys → Part old new rest all
part-more old mid new ys rest all left p is h = record {
  done = p.done ++ ys;
  filled = filled-more old mid new p.done ys p.filled h;
  are = append_assoc p.done ys rest ∙ ap (λ (v : List Key). p.done ++ v) (sym is) ∙ p.are;
}

pub part-same : (old mid : Keyed) (rest all left : List Key) → Part old mid left all → left ≡ rest
    → Part old mid rest all
part-same old mid rest all left p is = record {
  done = p.done;
  filled = p.filled;
  are = ap (λ (v : List Key). p.done ++ v) (sym is) ∙ p.are;
}

pub part-all : (old new : Keyed) (rest all : List Key) → Part old new rest all → rest ≡ [] → Filled old new all
part-all old new rest all p none =
    subst (Filled old new) (sym (append-nil p.done) ∙ ap (λ (v : List Key). p.done ++ v) (sym none) ∙ p.are) p.filled

-- how many there are
pub part-few : (old mid : Keyed) (ys rest all left : List Key) → Part old mid left all → left ≡ ys ++ rest
    → length (keys_in mid.cells) + length ys ≤ length (keys_in old.cells) + length all
part-few old mid ys rest all left p is =
    let cells : length (keys_in mid.cells) ≡ length (keys_in old.cells) + length p.done =
    ap length p.filled.cells ∙ length-append (keys_in old.cells) p.done in
    let all_ : length all ≡ length p.done + length left = sym (ap length p.are) ∙ length-append p.done left in
    let left_ : length left ≡ length ys + length rest = ap length is ∙ length-append ys rest in
    omega (arith, cells, all_, left_)

-- ---- the keys of one sequence

abbrev the-keys : List Key
the-keys = []

counted : (n count : ℕ) → n < count → count - n ≡ suc (count - (n + 1))
counted n count lt = omega arith

pub own-next : (r : List Fact) (s n count : ℕ) → n < count
    → own_waiting r s n (count - n) ≡ own_waiting r s n 1 ++ own_waiting r s (n + 1) (count - (n + 1))
own-next r s n count lt =
    ap (own_waiting r s n) (counted n count lt)
    ∙ filter-append (is_waiting r) (key s n ∷ []) (map (key s) (numbers_from (n + 1) (count - (n + 1))))

pub own-one : (r : List Fact) (s n : ℕ) (b : Bool) → is_waiting r (key s n) ≡ b
    → own_waiting r s n 1 ≡ cond b (key s n ∷ []) []
own-one r s n b e = ap (λ (x : Bool). cond x (key s n ∷ []) the-keys) e

pub own-none : (r : List Fact) (s n count : ℕ) → count ≤ n → own_waiting r s n (count - n) ≡ []
own-none r s n count le = let none : count - n ≡ 0 = omega arith in ap (own_waiting r s n) none

-- ---- order

All-weak : (P Q : Key → Type 0) → ((k : Key) → P k → Q k) → (keys : List Key) → AllByRecursion P keys
    → AllByRecursion Q keys
All-weak P Q f [] h = tt
All-weak P Q f (k ∷ keys) h = (f k h.0, All-weak P Q f keys h.1)

All-plus : (P : Key → Type 0) (xs ys : List Key) → AllByRecursion P xs → AllByRecursion P ys
    → AllByRecursion P (xs ++ ys)
All-plus P [] ys h k = k
All-plus P (x ∷ xs) ys h k = (h.0, All-plus P xs ys h.1 k)

next-number : (k : Key) (s n : ℕ) → is_before k (key s n) ≡ true → is_before k (key s (n + 1)) ≡ true
next-number k s n h = grind (arith, nat_tests, h)

later-number : (k : Key) (s n m : ℕ) → n ≤ m → is_before k (key s n) ≡ true → is_before k (key s m) ≡ true
later-number k s n m le h = grind (arith, nat_tests, le, h)

this-number : (s n : ℕ) → is_before (key s n) (key s (n + 1)) ≡ true
this-number s n = grind (arith, nat_tests)

next-sequence : (k : Key) (s n : ℕ) → is_before k (key s n) ≡ true → is_before k (key (s + 1) 0) ≡ true
next-sequence k s n h = grind (arith, nat_tests, h)

pub before-next : (keys : List Key) (s n : ℕ) → AllBefore keys (key s n) → AllBefore keys (key s (n + 1))
before-next keys s n h =
    All-weak (λ (k : Key). is_before k (key s n) ≡ true) (λ (k : Key). is_before k (key s (n + 1)) ≡ true)
    (λ k e. next-number k s n e) keys h

pub before-later : (keys : List Key) (s n m : ℕ) → n ≤ m → AllBefore keys (key s n) → AllBefore keys (key s m)
before-later keys s n m le h =
    All-weak (λ (k : Key). is_before k (key s n) ≡ true) (λ (k : Key). is_before k (key s m) ≡ true)
    (λ k e. later-number k s n m le e) keys h

pub before-with : (keys : List Key) (s n : ℕ) → AllBefore keys (key s n)
    → AllBefore (keys ++ key s n ∷ []) (key s (n + 1))
before-with keys s n h =
    All-plus (λ (k : Key). is_before k (key s (n + 1)) ≡ true) keys (key s n ∷ []) (before-next keys s n h)
    (this-number s n, tt)

pub before-sequence : (keys : List Key) (s n : ℕ) → AllBefore keys (key s n) → AllBefore keys (key (s + 1) 0)
before-sequence keys s n h =
    All-weak (λ (k : Key). is_before k (key s n) ≡ true) (λ (k : Key). is_before k (key (s + 1) 0) ≡ true)
    (λ k e. next-sequence k s n e) keys h

pub before-none : (keys : List Key) (k : Key) → keys ≡ [] → AllBefore keys k
before-none keys k e = subst (λ (v : List Key). AllBefore v k) (sym e) tt

-- ---- all sequences

dropped : (ms : List Maker) (k : ℕ) → k < length ms → (m : Maker) × (slice_get ms k ≡ Some m)
    × (drop k ms ≡ m ∷ drop (k + 1) ms)
dropped [] k lt = absurd (omega arith)
dropped (m ∷ ms) zero lt = (m, refl, refl)
dropped (m ∷ ms) (suc k) lt =
    let rest = dropped ms k (omega arith) in
    let one : suc k + 1 ≡ suc (k + 1) = omega arith in
    (rest.0, rest.1, rest.2 ∙ ap (λ (n : ℕ). rest.0 ∷ drop n (m ∷ ms)) (sym one))

pub sequences-next : (r : List Fact) (k : ℕ) → k < length (makers r)
    → filter (is_waiting r) (keys_from r k (drop k (makers r)))
    ≡ own_waiting r (k + 1) 0 (count_of r (k + 1) (maker r (k + 1)))
    ++ filter (is_waiting r) (keys_from r (k + 1) (drop (k + 1) (makers r)))
sequences-next r k lt =
    let d = dropped (makers r) k lt in
    let at : maker r (k + 1) ≡ Some d.0 = numbered-at (makers r) k ∙ d.1 in
    ap (λ (v : List Maker). filter (is_waiting r) (keys_from r k v)) d.2
    ∙ filter-append (is_waiting r) (keys_at r (k + 1) d.0) (keys_from r (k + 1) (drop (k + 1) (makers r)))
    ∙ ap (λ (o : Option Maker). own_waiting r (k + 1) 0 (count_of r (k + 1) o)
    ++ filter (is_waiting r) (keys_from r (k + 1) (drop (k + 1) (makers r)))) (sym at)
  where
    numbered-at : (ms : List Maker) (i : ℕ) → numbered ms (i + 1) ≡ slice_get ms i
    numbered-at ms i =
        let other : ((i + 1) == 0) ≡ false = ne_eqb (i + 1) 0 (λ e. absurd (omega arith)) in
        let less : i + 1 - 1 ≡ i = omega arith in
        ap₂ (λ (b : Bool) (j : ℕ). cond b None (slice_get ms j)) other less

pub sequences-end : (r : List Fact) (k : ℕ) → length (makers r) ≤ k
    → filter (is_waiting r) (keys_from r k (drop k (makers r))) ≡ []
sequences-end r k le = ap (λ (v : List Maker). filter (is_waiting r) (keys_from r k v)) (drop-past (makers r) k le)
  where
    drop-past : (ms : List Maker) (i : ℕ) → length ms ≤ i → drop i ms ≡ []
    drop-past [] zero h = refl
    drop-past [] (suc i) h = refl
    drop-past (m ∷ ms) zero h = absurd (omega arith)
    drop-past (m ∷ ms) (suc i) h = drop-past ms i (omega arith)

pub filled-none : (old : Keyed) → Filled old old []
filled-none old = record {
  cells = sym (append-nil (keys_in old.cells));
  waits = λ waits st. subst (StandsFor old) (sym (append-nil waits)) st;
  time = refl;
}
