-- A key that no record may end waits on.
use Rattle.std.proofs.Common.{◌≡◌, ◌≢◌, ◌⊎◌, ℕ, zero, suc, ◌+◌, ◌≤◌, ◌==◌, ◌||◌, ◌&&◌, not, nat_lt, nat_le}
use Rattle.std.proofs.Common.{min, max, cond, Bool, true, false, List, [], ◌∷◌, ◌++◌, length, refl, sym, ap, ap₂}
use Rattle.std.proofs.Common.{◌∙◌, subst, arith, append-nil, append_assoc, inl, inr}
use Rattle.std.specs.Prelude.{Option, Some, None}
use Rattle.std.specs.List.{flat_map}
use Rattle.std.proofs.lemmas.Bool.{and_parts, eqb-true, eq-eqb, false≢true}
use Rattle.std.proofs.lemmas.Bool.Decides.{nat_tests}
use Rattle.rm_sides.specs.declared.ranges.range.Range.{Range}
use Rattle.rm_sides.specs.Ranges.Ranges.{is_between, in_range, in_ranges}
use Rattle.rm_sides.specs.Ranges.Changes.{with_range, united}
use Rattle.rm_sides.specs.Source.Outgoing.{Sending}
use Rattle.timers.specs.declared.slots.timers.Key.{Key}
use Rattle.record_batch.specs.Fact.{Fact, Acked}
use Rattle.rm_base.specs.Numbered.{numbered}
use Rattle.rm_protocol.specs.Exact.{OthersWaitOn}
use Rattle.rm_protocol.specs.Waiting.{is_waiting, waits_in, waits_of}
use Rattle.record_batch.specs.Sequences.Fits.{fits, all_fit}
use Rattle.record_batch.specs.Sequences.GatherLemmas.{flat_map-more}
use Rattle.record_batch.specs.Sequences.Makers.{Maker, Outgoing, Offered, Incoming, Taken, maker, makers, makers_of}
use Rattle.record_batch.specs.Sequences.NameLemmas.{names-within}
use Rattle.record_batch.specs.Sequences.Sources.{acked_of, is_sending}
use Rattle.record_batch.specs.Sequences.Told.{names, sending}
use Rattle.record_batch.specs.Sequences.ToldLemmas.{sending-more}
use Rattle.record_batch.specs.Sequences.Words.{Text}
use Rattle.node_waits.specs.declared.keys.touched.Touched.{Touched}
use Rattle.node_waits.specs.Keys.Settled.{all_of, is_touched, is_within, touched_by}

-- ---- numbers of ranges that are united, whatever ranges they are

or-swap : (x y z : Bool) → (y || (x || z)) ≡ (x || (y || z))
or-swap true true z = refl
or-swap true false z = refl
or-swap false y z = refl

or-assoc : (x y z : Bool) → ((x || y) || z) ≡ (x || (y || z))
or-assoc true y z = refl
or-assoc false y z = refl

or-none : (x : Bool) → (x || false) ≡ x
or-none true = refl
or-none false = refl

-- two ranges that meet or touch
joined : (a b l u n : ℕ) → nat_lt (b + 1) l ≡ false → nat_lt (u + 1) a ≡ false
    → is_between (min a l) (max b u) n ≡ (is_between l u n || is_between a b n)
joined a b l u n h k = grind (arith, nat_tests, h, k)

pub with-numbers : (rs : List Range) (l u n : ℕ)
    → in_ranges (with_range rs l u) n ≡ (is_between l u n || in_ranges rs n)
with-numbers [] l u n = refl
with-numbers (r ∷ rs) l u n =
    elim (nat_lt (r.upper + 1) l) as (λ b. nat_lt (r.upper + 1) l ≡ b → in_ranges (cond b (r ∷ with_range rs l u)
    (cond (nat_lt (u + 1) r.lower) (record { lower = l; upper = u } ∷ r ∷ rs)
    (with_range rs (min r.lower l) (max r.upper u)))) n ≡ (is_between l u n || in_ranges (r ∷ rs) n)) [
      | true ↦ λ e. ap (λ (b : Bool). in_range r n || b) (with-numbers rs l u n)
          ∙ or-swap (is_between l u n) (in_range r n) (in_ranges rs n)
      | false ↦ λ e. elim (nat_lt (u + 1) r.lower) as (λ b. nat_lt (u + 1) r.lower ≡ b
          → in_ranges (cond b (record { lower = l; upper = u } ∷ r ∷ rs)
          (with_range rs (min r.lower l) (max r.upper u))) n ≡ (is_between l u n || in_ranges (r ∷ rs) n)) [
            | true ↦ λ d. refl
            | false ↦ λ d. with-numbers rs (min r.lower l) (max r.upper u) n
                ∙ ap (λ (b : Bool). b || in_ranges rs n) (joined r.lower r.upper l u n e d)
                ∙ or-assoc (is_between l u n) (in_range r n) (in_ranges rs n)
          ] refl
    ] refl

united-lacks : (xs ys : List Range) (n : ℕ) → in_ranges ys n ≡ false → in_ranges (united xs ys) n ≡ in_ranges xs n
united-lacks xs [] n h = refl
united-lacks xs (y ∷ ys) n h =
    elim (in_range y n) as (λ b. in_range y n ≡ b → (b || in_ranges ys n) ≡ false
    → in_ranges (united (with_range xs y.lower y.upper) ys) n ≡ in_ranges xs n) [
      | true ↦ λ e f. absurd (false≢true (sym f))
      | false ↦ λ e f. united-lacks (with_range xs y.lower y.upper) ys n f ∙ with-numbers xs y.lower y.upper n
          ∙ ap (λ (b : Bool). b || in_ranges xs n) e
    ] refl h

-- ---- an acknowledgement leaves the keys of all other numbers

waits-more : (t : Sending) (ranges : List Range) (i : ℕ) → in_ranges ranges i ≡ false → waits_in t i ≡ true
    → waits_in (record {
      phase = t.phase;
      dropped = t.dropped;
      accepted = t.accepted ++ [];
      acked = united t.acked ranges;
    }) i ≡ true
waits-more t ranges zero n w = w
waits-more t ranges (suc i) n w =
    ap₂ (λ (ps : List Text) (b : Bool). is_sending t.phase && (nat_le (suc i) (t.dropped + length ps) && not b))
    (append-nil t.accepted) (united-lacks t.acked ranges (suc i) n) ∙ w

acked-lacks : (seq s n : ℕ) (ranges : List Range) → in_ranges ranges n ≡ false
    → in_ranges (acked_of s (Acked seq ranges)) n ≡ false
acked-lacks seq s n ranges h = elim (seq == s) as (λ b. in_ranges (cond b ranges []) n ≡ false) [
  | true ↦ h
  | false ↦ refl
]

acked-waits : (r : List Fact) (seq : ℕ) (ranges : List Range) (k : Key) → fits r (Acked seq ranges) ≡ true
    → k.seq ≡ seq → in_ranges ranges k.number ≡ false → is_waiting r k ≡ true
    → is_waiting (r ++ Acked seq ranges ∷ []) k ≡ true
acked-waits r seq ranges k fit is none w =
    ap (waits_of (r ++ Acked seq ranges ∷ []) k.seq k.number) same ∙ by_maker (maker r k.seq) w
  where
    same : maker (r ++ Acked seq ranges ∷ []) k.seq ≡ maker r k.seq
    same = ap (λ (v : List Maker). numbered v k.seq)
        (flat_map-more makers_of r (Acked seq ranges) ∙ append-nil (makers r))

    sent : waits_in (sending r k.seq) k.number ≡ true
        → waits_in (sending (r ++ Acked seq ranges ∷ []) k.seq) k.number ≡ true
    sent x =
        let low = names-within r (Acked seq ranges) fit in
        ap (λ (t : Sending). waits_in t k.number)
        (sending-more r (Acked seq ranges) k.seq (subst (λ (s : ℕ). s ≤ length (makers r)) (sym is) low) fit)
        ∙ waits-more (sending r k.seq) (acked_of k.seq (Acked seq ranges)) k.number
        (acked-lacks seq k.seq k.number ranges none) x

    by_maker : (o : Option Maker) → waits_of r k.seq k.number o ≡ true
        → waits_of (r ++ Acked seq ranges ∷ []) k.seq k.number o ≡ true
    by_maker None x = x
    by_maker (Some (Outgoing t to v l)) x = sent x
    by_maker (Some (Taken t q p)) x = sent x
    by_maker (Some (Offered t c to y)) x = x
    by_maker (Some (Incoming c t p y d l)) x = x

-- ---- so does each record with the keys that it may not end

-- all keys of the sequence that a record names
whole : Fact → List Touched
whole f = all_of (names f) ∷ []

-- a record is an acknowledgement, or it may end all of them
which : (f : Fact) → ((seq : ℕ) × ((ranges : List Range) × (f ≡ Acked seq ranges))) ⊎ (touched_by f ≡ whole f)
unfolding whole
which (Acked seq ranges) = inl (seq, (ranges, refl))
which _ = inr refl

elsewhere : (f : Fact) (k : Key) → is_touched (whole f) k ≡ false → names f ≢ k.seq
unfolding whole
elsewhere f k h e =
    let same : (k.seq == names f) ≡ true = eq-eqb k.seq (names f) (sym e) in
    false≢true (sym h ∙ ap (λ (b : Bool). (b && true) || false) same)

lacked : (seq : ℕ) (ranges : List Range) (k : Key) → (k.seq == seq) ≡ true
    → is_touched (touched_by (Acked seq ranges)) k ≡ false → in_ranges ranges k.number ≡ false
lacked seq [] k e h = refl
lacked seq (range ∷ ranges) k e h =
    elim (in_range range k.number) as (λ b. (((k.seq == seq) && b) || is_touched (touched_by (Acked seq ranges)) k)
    ≡ false → (b || in_ranges ranges k.number) ≡ false) [
      | true ↦ λ f. absurd (false≢true (sym f
          ∙ ap (λ (b : Bool). (b && true) || is_touched (touched_by (Acked seq ranges)) k) e))
      | false ↦ λ f. lacked seq ranges k e
          (sym (ap (λ (b : Bool). (b && false) || is_touched (touched_by (Acked seq ranges)) k) e) ∙ f)
    ] h

one-waits : OthersWaitOn → (r : List Fact) (f : Fact) (k : Key) → fits r f ≡ true
    → is_touched (touched_by f) k ≡ false → is_waiting r k ≡ true → is_waiting (r ++ f ∷ []) k ≡ true
one-waits law r f k fit h w = elim (which f) [
  | inl (seq, (ranges, is)) ↦ subst (λ (g : Fact). is_waiting (r ++ g ∷ []) k ≡ true) (sym is)
      (acked seq ranges (subst (λ (g : Fact). fits r g ≡ true) is fit)
      (subst (λ (g : Fact). is_touched (touched_by g) k ≡ false) is h))
  | inr is ↦ other f fit (elsewhere f k (subst (λ (l : List Touched). is_touched l k ≡ false) is h))
]
  where
    other : (g : Fact) → fits r g ≡ true → names g ≢ k.seq → is_waiting (r ++ g ∷ []) k ≡ true
    other g ok ne = law r (g ∷ []) k (ap (λ (b : Bool). b && true) ok) (ne, tt) w

    acked : (seq : ℕ) (ranges : List Range) → fits r (Acked seq ranges) ≡ true
        → is_touched (touched_by (Acked seq ranges)) k ≡ false → is_waiting (r ++ Acked seq ranges ∷ []) k ≡ true
    acked seq ranges ok u =
        elim (k.seq == seq) as (λ b. (k.seq == seq) ≡ b → is_waiting (r ++ Acked seq ranges ∷ []) k ≡ true) [
          | true ↦ λ e. acked-waits r seq ranges k ok (eqb-true k.seq seq e) (lacked seq ranges k e u) w
          | false ↦ λ e. other (Acked seq ranges) ok
              (λ same. false≢true (sym e ∙ eq-eqb k.seq seq (sym same)))
        ] refl

neither : (xs ys : List Touched) (k : Key) → is_touched (xs ++ ys) k ≡ false
    → (is_touched xs k ≡ false) × (is_touched ys k ≡ false)
neither [] ys k h = (refl, h)
neither (x ∷ xs) ys k h =
    elim (is_within x k) as (λ b. (b || is_touched (xs ++ ys) k) ≡ false
    → ((b || is_touched xs k) ≡ false) × (is_touched ys k ≡ false)) [
      | true ↦ λ e. absurd (false≢true (sym e))
      | false ↦ λ e. neither xs ys k e
    ] h

pub wait-on : OthersWaitOn → (r delta : List Fact) (k : Key) → all_fit r delta ≡ true
    → is_touched (flat_map touched_by delta) k ≡ false → is_waiting r k ≡ true → is_waiting (r ++ delta) k ≡ true
wait-on law r [] k fit h w = subst (λ (l : List Fact). is_waiting l k ≡ true) (sym (append-nil r)) w
wait-on law r (f ∷ delta) k fit h w =
    let parts = and_parts (fits r f) (all_fit (r ++ f ∷ []) delta) fit in
    let two = neither (touched_by f) (flat_map touched_by delta) k h in
    subst (λ (l : List Fact). is_waiting l k ≡ true) (append_assoc r (f ∷ []) delta)
    (wait-on law (r ++ f ∷ []) delta k parts.1 two.1 (one-waits law r f k parts.0 two.0 w))
