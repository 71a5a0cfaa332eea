-- What a list of records gives whose records could each come next.
use Rattle.std.proofs.Common.{◌≡◌, ℕ, ◌+◌, ◌<◌, ◌≤◌, ◌==◌, ◌&&◌, ◌||◌, not, nat_lt, nat_le, min, max, cond, Bool}
use Rattle.std.proofs.Common.{true, false, List, [], ◌∷◌, ◌++◌, length, refl, sym, ap, ◌∙◌, arith, subst, append-nil}
use Rattle.std.proofs.Common.{append_assoc}
use Rattle.std.specs.Prelude.{Option, Some, None, is_none}
use Rattle.std.specs.List.{AllByRecursion, flat_map, list_all}
use Rattle.std.specs.Str.{bytes_eq}
use Rattle.std.proofs.lemmas.Bool.Decides.{nat_tests}
use Rattle.std.proofs.lemmas.List.Concat.{flat_map-append}
use Rattle.rm_sides.specs.declared.ranges.range.Range.{Range}
use Rattle.rm_sides.specs.Ranges.Changes.{with_range, united}
use Rattle.rm_base.specs.Numbered.{numbered}
use Rattle.rm_sides.specs.declared.source.phase.OutPhase.{OutPhase}
use Rattle.rm_sides.specs.declared.source.phase.OutPhase.TheVariants as out
use Rattle.record_batch.specs.Fact.{Fact, Created, Granted, ClosedOut}
use Rattle.rm_sides.specs.Destination.Messages.{is_empty}
use Rattle.record_batch.specs.Sequences.Words.{Text, last_or}
use Rattle.record_batch.specs.Sequences.Idents.{issue}
use Rattle.record_batch.specs.Sequences.Makers.{Maker, Outgoing, Offered, Incoming, Taken, makers, makers_of, maker}
use Rattle.record_batch.specs.Sequences.Makers.{number}
use Rattle.record_batch.specs.Sequences.Makers.{created, created_of, seq_in}
use Rattle.record_batch.specs.Sequences.Sources.{first_phase, is_sending, marks, out_ident, phase}
use Rattle.record_batch.specs.Sequences.Find.{find_incoming, find_outgoing, find_creating, is_incoming, is_creating}
use Rattle.record_batch.specs.Sequences.Fits.{is_outgoing_side, is_incoming_side, follows, follows_at, is_up_to, fits}
use Rattle.record_batch.specs.Sequences.Fits.{all_fit}
use Rattle.rm_protocol.specs.Verdict.{is_above}
use Rattle.rm_protocol.proofs.ListLemmas.{All-weaker, All-append, find-is, numbered-append}
use Rattle.rm_protocol.proofs.Growth.{created-add}
use Rattle.rm_protocol.proofs.Adds.{second_last}

-- tests that both hold
pub both : (x y : Bool) → x ≡ true → y ≡ true → (x && y) ≡ true
both true y e f = f
both false y e f = absurd (cc)

pub first : (x y : Bool) → (x && y) ≡ true → x ≡ true
first true y e = refl
first false y e = e

pub second : (x y : Bool) → (x && y) ≡ true → y ≡ true
second true y e = e
second false y e = absurd (cc)

pub neither : (x y : Bool) → (x || y) ≡ false → (x ≡ false) × (y ≡ false)
neither true y e = absurd (cc)
neither false y e = (refl, e)

pub true-not : (x : Bool) → x ≡ false → not x ≡ true
true-not true e = absurd (cc)
true-not false e = refl

not-true : (x : Bool) → not x ≡ true → x ≡ false
not-true true e = absurd (cc)
not-true false e = refl

-- tests of numbers
pub same_number : (n : ℕ) → (n == n) ≡ true
same_number n = grind (arith, nat_tests)

pub other_number : (a b : ℕ) → a < b → (a == b) ≡ false
other_number a b h = grind (arith, nat_tests)

pub no_zero : (now a : ℕ) → now < a → not (a == 0) ≡ true
no_zero now a h = grind (arith, nat_tests)

pub le_test : (a b : ℕ) → a ≤ b → nat_le a b ≡ true
le_test a b h = grind (arith, nat_tests)

pub not_le : (a b : ℕ) → nat_le a b ≡ false → b < a
not_le a b h = grind (arith, nat_tests)

pub lt_test : (a b : ℕ) → a < b → nat_lt a b ≡ true
lt_test a b h = grind (arith, nat_tests)

pub not_lt : (a b : ℕ) → nat_lt a b ≡ false → b ≤ a
not_lt a b h = grind (arith, nat_tests)

-- one record alone, and what comes after others
pub alone : (r : List Fact) (rec : Fact) → fits r rec ≡ true → all_fit r (rec ∷ []) ≡ true
alone r rec e = both (fits r rec) true e refl

pub unless-fit : (r : List Fact) (x : Bool) (rec : Fact) → (x ≡ false → fits r rec ≡ true)
    → all_fit r (cond x [] (rec ∷ [])) ≡ true
unless-fit r true rec h = refl
unless-fit r false rec h = alone r rec (h refl)

pub if-fit : (r : List Fact) (x : Bool) (rec : Fact) → (x ≡ true → fits r rec ≡ true)
    → all_fit r (cond x (rec ∷ []) []) ≡ true
if-fit r true rec h = alone r rec (h refl)
if-fit r false rec h = refl

pub all_fit-append : (r d e : List Fact) → all_fit r d ≡ true → all_fit (r ++ d) e ≡ true → all_fit r (d ++ e) ≡ true
all_fit-append r [] e h k = subst (λ z. all_fit z e ≡ true) (append-nil r) k
all_fit-append r (x ∷ d) e h k =
    both (fits r x) (all_fit (r ++ x ∷ []) (d ++ e)) (first (fits r x) (all_fit (r ++ x ∷ []) d) h)
    (all_fit-append (r ++ x ∷ []) d e (second (fits r x) (all_fit (r ++ x ∷ []) d) h)
    (subst (λ z. all_fit z e ≡ true) (sym (append_assoc r (x ∷ []) d)) k))

-- a fact that a record doesn't touch
pub untouched : {A : Type 0} (f : Fact → List A) (r : List Fact) (rec : Fact) → f rec ≡ []
    → flat_map f (r ++ rec ∷ []) ≡ flat_map f r
untouched f r rec none =
    flat_map-append f r (rec ∷ []) ∙ ap (λ z. flat_map f r ++ (z ++ [])) none ∙ append-nil (flat_map f r)

-- a sequence stays on its side
outgoing-kept : (ms more : List Maker) (s : ℕ) → is_outgoing_side (numbered ms s) ≡ true
    → is_outgoing_side (numbered (ms ++ more) s) ≡ true
outgoing-kept ms more s h = by_maker (numbered ms s) refl h
  where
    by_maker : (x : Option Maker) → numbered ms s ≡ x → is_outgoing_side x ≡ true
        → is_outgoing_side (numbered (ms ++ more) s) ≡ true
    by_maker None e k = absurd (cc)
    by_maker (Some m) e k = ap is_outgoing_side (numbered-append ms more s m e) ∙ k

-- each identifier is that of an outgoing sequence
abbrev AreOutgoing : List Maker → List (ℕ × Text) → Type 0
AreOutgoing ms cs = AllByRecursion (λ (c : ℕ × Text). is_outgoing_side (numbered ms c.0) ≡ true) cs

new-outgoing : (r : List Fact) (rec : Fact) → fits r rec ≡ true
    → AreOutgoing (makers r ++ makers_of rec) (created_of (length (makers r)) rec)
new-outgoing r (Created seq ident accept) h =
    (outgoing-kept (makers r) [] seq (first (is_outgoing_side (maker r seq)) _ h), tt)
new-outgoing r (Granted drawn t acks_to y deadline lapse (Some taken)) h = (
  ap is_outgoing_side (second_last (makers r) (Incoming drawn t acks_to y deadline lapse)
      (Taken t taken.ident taken.endpoint)),
  tt,
)
new-outgoing r (Granted drawn t acks_to y deadline lapse None) h = tt
new-outgoing r _ h = tt

outgoing-add : (r : List Fact) (rec : Fact) → fits r rec ≡ true → AreOutgoing (makers r) (created r)
    → AreOutgoing (makers (r ++ rec ∷ [])) (created (r ++ rec ∷ []))
outgoing-add r rec f h =
    rw (
      flat_map-append makers_of r (rec ∷ [])
          ∙ ap (λ z. makers r ++ z) (append-nil (makers_of rec)),
      created-add r rec,
    ) (All-append (λ (c : ℕ × Text). is_outgoing_side (numbered (makers r ++ makers_of rec) c.0) ≡ true) (created r)
    (created_of (length (makers r)) rec)
    (All-weaker (λ (c : ℕ × Text). is_outgoing_side (numbered (makers r) c.0) ≡ true)
    (λ (c : ℕ × Text). is_outgoing_side (numbered (makers r ++ makers_of rec) c.0) ≡ true)
    (λ c e. outgoing-kept (makers r) (makers_of rec) c.0 e) (created r) h)
    (new-outgoing r rec f))

outgoing-adds : (r d : List Fact) → all_fit r d ≡ true → AreOutgoing (makers r) (created r)
    → AreOutgoing (makers (r ++ d)) (created (r ++ d))
outgoing-adds r [] f h = subst (λ z. AreOutgoing (makers z) (created z)) (sym (append-nil r)) h
outgoing-adds r (rec ∷ d) f h =
    subst (λ z. AreOutgoing (makers z) (created z)) (append_assoc r (rec ∷ []) d)
    (outgoing-adds (r ++ rec ∷ []) d (second (fits r rec) (all_fit (r ++ rec ∷ []) d) f)
    (outgoing-add r rec (first (fits r rec) (all_fit (r ++ rec ∷ []) d) f) h))

seq_in-side : (ms : List Maker) (cs : List (ℕ × Text)) (q : Text) (s : ℕ) → AreOutgoing ms cs → seq_in cs q ≡ Some s
    → is_outgoing_side (numbered ms s) ≡ true
seq_in-side ms [] q s h e = absurd (cc)
seq_in-side ms (c ∷ cs) q s h e =
    elim (bytes_eq c.1 q) as (λ b. cond b (Some c.0) (seq_in cs q) ≡ Some s
    → is_outgoing_side (numbered ms s) ≡ true) [
      | true ↦ λ k. let same : c.0 ≡ s = cc in subst (λ z. is_outgoing_side (numbered ms z) ≡ true) same h.0
      | false ↦ λ k. seq_in-side ms cs q s h.1 k
    ] e

-- what is found by its identifier stands on the fitting side
pub outgoing-found : (r : List Fact) (q : Text) (s : ℕ) → all_fit [] r ≡ true → find_outgoing r q ≡ Some s
    → is_outgoing_side (maker r s) ≡ true
outgoing-found r q s h e = seq_in-side (makers r) (created r) q s (outgoing-adds [] r h tt) e

pub incoming-found : (r : List Fact) (q : Text) (s : ℕ) → find_incoming r q ≡ Some s
    → is_incoming_side (maker r s) ≡ true
incoming-found r q s e =
    let found = find-is (is_incoming (number r) q) (makers r) s e in
    ap is_incoming_side found.1 ∙ by_maker found.0 found.2
  where
    by_maker : (m : Maker) → is_incoming (number r) q s m ≡ true → is_incoming_side (Some m) ≡ true
    by_maker (Incoming c t k y d l) h = refl
    by_maker (Offered t c to y) h = refl
    by_maker _ h = absurd (cc)

-- what is found by its request is in phase Creating
pub creating-found : (r : List Fact) (t : Text) (s : ℕ) → find_creating r t ≡ Some s
    → (is_outgoing_side (maker r s) ≡ true) × (phase r s ≡ out.Creating)
creating-found r t s e =
    let found = find-is (is_creating r t) (makers r) s e in
    let asked = by_maker found.0 found.2 in
    (ap is_outgoing_side found.1 ∙ asked.0, asked.1)
  where
    first_one : (x : Option Text) (ms : List OutPhase) → is_none x ≡ true → is_empty ms ≡ true
        → last_or (first_phase x) ms ≡ out.Creating
    first_one None [] h k = refl
    first_one None (m ∷ ms) h k = absurd (cc)
    first_one (Some q) ms h k = absurd (cc)

    by_maker : (m : Maker) → is_creating r t s m ≡ true
        → (is_outgoing_side (Some m) ≡ true) × (phase r s ≡ out.Creating)
    by_maker (Outgoing ticket to via lapse) h =
        let new = second (bytes_eq (issue (number r) ticket) t) (is_none (out_ident r s) && is_empty (marks r s)) h in (
          refl,
          first_one (out_ident r s) (marks r s) (first (is_none (out_ident r s)) (is_empty (marks r s)) new)
              (second (is_none (out_ident r s)) (is_empty (marks r s)) new),
        )
    by_maker _ h = absurd (cc)

-- a record may follow in the phase of an outgoing sequence
pub follow : (r : List Fact) (s : ℕ) (rec : Fact) → is_outgoing_side (maker r s) ≡ true → follows (phase r s) rec ≡ true
    → follows_at r s rec ≡ true
follow r s rec h k = both (is_outgoing_side (maker r s)) (follows (phase r s) rec) h k

pub sending-follows : (p : OutPhase) (s : ℕ) → is_sending p ≡ true → follows p (ClosedOut s) ≡ true
sending-follows out.Open s e = refl
sending-follows out.Closing s e = refl
sending-follows _ s e = absurd (cc)

-- ranges between 1 and n
abbrev UpTo : ℕ → Range → Type 0
UpTo n range = (1 ≤ range.lower) × (range.upper ≤ n)

with_range-up_to : (n : ℕ) (rs : List Range) (l u : ℕ) → AllByRecursion (UpTo n) rs → 1 ≤ l → u ≤ n
    → AllByRecursion (UpTo n) (with_range rs l u)
with_range-up_to n [] l u h i k = ((i, k), tt)
with_range-up_to n (r ∷ rs) l u h i k =
    let low : 1 ≤ r.lower = h.0.0 in
    let high : r.upper ≤ n = h.0.1 in
    elim (nat_lt (r.upper + 1) l) as (λ b. AllByRecursion (UpTo n) (cond b (r ∷ with_range rs l u)
    (cond (nat_lt (u + 1) r.lower) (record { lower = l; upper = u } ∷ r ∷ rs)
    (with_range rs (min r.lower l) (max r.upper u))))) [
      | true ↦ (h.0, with_range-up_to n rs l u h.1 i k)
      | false ↦ elim (nat_lt (u + 1) r.lower) as (λ b. AllByRecursion (UpTo n)
          (cond b (record { lower = l; upper = u } ∷ r ∷ rs) (with_range rs (min r.lower l) (max r.upper u)))) [
            | true ↦ ((i, k), h)
            | false ↦ with_range-up_to n rs (min r.lower l) (max r.upper u) h.1 (omega arith) (omega arith)
          ]
    ]

pub united-up_to : (n : ℕ) (xs ys : List Range) → AllByRecursion (UpTo n) xs → AllByRecursion (UpTo n) ys
    → AllByRecursion (UpTo n) (united xs ys)
united-up_to n xs [] h k = h
united-up_to n xs (y ∷ ys) h k =
    united-up_to n (with_range xs y.lower y.upper) ys (with_range-up_to n xs y.lower y.upper h k.0.0 k.0.1) k.1

pub all-up_to : (n : ℕ) (rs : List Range) → AllByRecursion (UpTo n) rs → list_all (is_up_to n) rs ≡ true
all-up_to n [] h = refl
all-up_to n (r ∷ rs) h =
    both (is_up_to n r) (list_all (is_up_to n) rs)
    (both (nat_le 1 r.lower) (nat_le r.upper n) (le_test 1 r.lower h.0.0) (le_test r.upper n h.0.1))
    (all-up_to n rs h.1)

pub not_above : (n : ℕ) (rs : List Range) → AllByRecursion (λ (range : Range). 1 ≤ range.lower) rs
    → is_above n rs ≡ false → AllByRecursion (UpTo n) rs
not_above n [] h e = tt
not_above n (r ∷ rs) h e =
    let parts = neither (nat_lt n r.upper) (is_above n rs) e in
    ((h.0, not_lt n r.upper parts.0), not_above n rs h.1 parts.1)
