-- Of a list of records: no source is more than a window ahead of its acknowledgements, and no destination holds a
-- number that is more than a window past its front. Which records keep that.
use Rattle.std.proofs.Common.{◌≡◌, ◌⊎◌, ℕ, ◌+◌, ◌<◌, ◌≤◌, ◌==◌, ◌||◌, ◌&&◌, cond, Bool, true, false, List, []}
use Rattle.std.proofs.Common.{◌∷◌, ◌++◌, length, refl, sym, ap, ◌∙◌, subst, arith, inl, inr, append-nil, append_assoc}
use Rattle.std.proofs.Common.{length-append}
use Rattle.std.specs.List.{AllByRecursion, flat_map}
use Rattle.std.proofs.lemmas.Bool.{and_parts, eqb-true, false≢true}
use Rattle.std.proofs.lemmas.Bool.Decides.{nat_tests}
use Rattle.std.proofs.lemmas.List.{map-append}
use Rattle.std.proofs.lemmas.List.Concat.{flat_map-append}
use Rattle.rm_base.specs.Limits.{window}
use Rattle.rm_base.specs.NumberSet.{has_number}
use Rattle.rm_base.specs.declared.message.Payload.{Payload}
use Rattle.rm_sides.specs.Destination.ItemLemmas.{has_number-held, has-more}
use Rattle.rm_sides.specs.Destination.Laws.{FrontIsReached}
use Rattle.rm_sides.specs.Destination.Messages.{numbers_of}
use Rattle.rm_sides.specs.Ranges.Changes.{united}
use Rattle.rm_sides.specs.Ranges.Laws.{UnionHasBoth}
use Rattle.rm_sides.specs.Ranges.Ranges.{count_of, in_ranges}
use Rattle.record_batch.specs.Fact.{Fact, Accepted, Dropped, Purged, Received}
use Rattle.record_batch.specs.Snapshot.AckedLemmas.{unions}
use Rattle.record_batch.specs.Snapshot.Same.{HasProper, HaveProper, NumbersAreFromOne, SnapshotKnowsAll}
use Rattle.record_batch.specs.Snapshot.Snapshot.{snapshot}
use Rattle.record_batch.specs.Sequences.GatherLemmas.{last_or-append}
use Rattle.record_batch.specs.Sequences.Words.{last_or}
use Rattle.record_batch.specs.Sequences.Sources.{accepted, accepted_count, accepted_of, acked, acked_of, dropped}
use Rattle.record_batch.specs.Sequences.Sources.{dropped_of, unacked}
use Rattle.record_batch.specs.Sequences.Destinations.{front, held, purged, purged_of, received, received_of}
use Rattle.record_batch.specs.Sequences.Fits.{all_fit, fits}
use Rattle.rm_arrival.specs.Near.{IsNear}
use Rattle.rm_arrival.proofs.MemberLemmas.{all-front}
use Rattle.rm_arrival.proofs.RangeLemmas.{in_ranges-first}
use Rattle.rm_arrival.proofs.StayLemmas.{front-grows}
use Rattle.rm_arrival.proofs.TallyLemmas.{count-more}

-- the record keeps it: a message is accepted where fewer than a window are not acknowledged, and received where it is
-- within the window
abbrev pub MayFollow : List Fact → Fact → Type 0
MayFollow r (Accepted s p) = unacked r s < window
MayFollow r (Received t n p) = n ≤ front r t + window
MayFollow r (Dropped s upto) = ⊥
MayFollow r (Purged t ranges) = ⊥
MayFollow r _ = Unit {0}

-- so does each record, behind those before it
abbrev pub AllFollow : List Fact → List Fact → Type 0
AllFollow r [] = Unit {0}
AllFollow r (f ∷ d) = MayFollow r f × AllFollow (r ++ f ∷ []) d

-- the record tells of no message that was accepted or received
abbrev pub BringsNone : Fact → Type 0
BringsNone (Accepted s p) = ⊥
BringsNone (Received t n p) = ⊥
BringsNone (Dropped s upto) = ⊥
BringsNone (Purged t ranges) = ⊥
BringsNone _ = Unit {0}

none-follows : (r : List Fact) (f : Fact) → BringsNone f → MayFollow r f
none-follows r (Accepted s p) h = absurd h
none-follows r (Received t n p) h = absurd h
none-follows r (Dropped s upto) h = h
none-follows r (Purged t ranges) h = h
none-follows r _ h = tt

pub none-follow : (r d : List Fact) → AllByRecursion BringsNone d → AllFollow r d
none-follow r [] h = tt
none-follow r (f ∷ d) h = (none-follows r f h.0, none-follow (r ++ f ∷ []) d h.1)

pub follow-join : (r d e : List Fact) → AllFollow r d → AllFollow (r ++ d) e → AllFollow r (d ++ e)
follow-join r [] e h k = subst (λ z. AllFollow z e) (append-nil r) k
follow-join r (f ∷ d) e h k =
    (h.0, follow-join (r ++ f ∷ []) d e h.1 (subst (λ z. AllFollow z e) (sym (append_assoc r (f ∷ []) d)) k))

-- ---- how many are accepted, and how many acknowledged

count-join : (r : List Fact) (f : Fact) (s : ℕ) → accepted_count (r ++ f ∷ []) s
    ≡ last_or (dropped r s) (dropped_of s f) + length (accepted r s ++ accepted_of s f)
count-join r f s =
    ap (λ z. last_or 0 z + length (accepted (r ++ f ∷ []) s))
    (flat_map-append (dropped_of s) r (f ∷ [])
    ∙ ap (λ z. flat_map (dropped_of s) r ++ z) (append-nil (dropped_of s f)))
    ∙ ap (λ n. n + length (accepted (r ++ f ∷ []) s))
    (last_or-append 0 (flat_map (dropped_of s) r) (dropped_of s f))
    ∙ ap (λ z. last_or (dropped r s) (dropped_of s f) + length z)
    (flat_map-append (accepted_of s) r (f ∷ [])
    ∙ ap (λ z. accepted r s ++ z) (append-nil (accepted_of s f)))

count-still : (r : List Fact) (f : Fact) (s : ℕ) → dropped_of s f ≡ [] → accepted_of s f ≡ []
    → accepted_count (r ++ f ∷ []) s ≡ accepted_count r s
count-still r f s d a =
    count-join r f s
    ∙ ap (λ z. last_or (dropped r s) z + length (accepted r s ++ accepted_of s f)) d
    ∙ ap (λ z. dropped r s + length (accepted r s ++ z)) a
    ∙ ap (λ z. dropped r s + length z) (append-nil (accepted r s))

acked-stay : (r d : List Fact) (s n : ℕ) → in_ranges (acked r s) n ≡ true → in_ranges (acked (r ++ d) s) n ≡ true
acked-stay r d s n h =
    ap (λ z. in_ranges z n) (flat_map-append (acked_of s) r d) ∙ in_ranges-first (acked r s) (acked d s) n h

acked-grows : UnionHasBoth → (r d : List Fact) (s : ℕ) → all_fit [] r ≡ true → HaveProper r
    → all_fit [] (r ++ d) ≡ true → HaveProper (r ++ d)
    → count_of (united [] (acked r s)) ≤ count_of (united [] (acked (r ++ d) s))
acked-grows both r d s fit proper more proper_ =
    let old = unions both [] r s [] tt fit (omega arith) proper in
    let new = unions both [] (r ++ d) s [] tt more (omega arith) proper_ in
    count-more (united [] (acked r s)) (united [] (acked (r ++ d) s)) old.set new.set
    (λ n h. new.same n ∙ acked-stay r d s n (sym (old.same n) ∙ h))

few-one : UnionHasBoth → (r : List Fact) (f : Fact) (s : ℕ) → all_fit [] r ≡ true → HaveProper r
    → all_fit [] (r ++ f ∷ []) ≡ true → HaveProper (r ++ f ∷ []) → MayFollow r f → unacked r s ≤ window
    → unacked (r ++ f ∷ []) s ≤ window
few-one both r f s fit proper more proper_ follows few =
    by_fact f follows (acked-grows both r (f ∷ []) s fit proper more proper_)
  where
    still_ : (g : Fact) → dropped_of s g ≡ [] → accepted_of s g ≡ []
        → count_of (united [] (acked r s)) ≤ count_of (united [] (acked (r ++ g ∷ []) s))
        → unacked (r ++ g ∷ []) s ≤ window
    still_ g d a grown = let same = count-still r g s d a in omega (arith, same, grown, few)

    one_more : (q : ℕ) (p : List ℕ) → q ≡ s → unacked r q < window
        → count_of (united [] (acked r s)) ≤ count_of (united [] (acked (r ++ Accepted q p ∷ []) s))
        → length (accepted_of s (Accepted q p)) ≤ 1 → unacked (r ++ Accepted q p ∷ []) s ≤ window
    one_more q p is room grown one =
        let here : unacked r s < window = subst (λ n. unacked r n < window) is room in
        let all = count-join r (Accepted q p) s in
        let longer = length-append (accepted r s) (accepted_of s (Accepted q p)) in
        omega (arith, all, longer, here, grown, one)

    by_fact : (g : Fact) → MayFollow r g
        → count_of (united [] (acked r s)) ≤ count_of (united [] (acked (r ++ g ∷ []) s))
        → unacked (r ++ g ∷ []) s ≤ window
    by_fact (Accepted q p) room grown =
        elim (q == s) as (λ b. (q == s) ≡ b → unacked (r ++ Accepted q p ∷ []) s ≤ window) [
          | true ↦ λ e. one_more q p (eqb-true q s e) room grown
              (subst (λ b. length (cond b (p ∷ []) []) ≤ 1) (sym e) (omega arith))
          | false ↦ λ e. still_ (Accepted q p) refl (ap (λ b. cond b (p ∷ []) []) e) grown
        ] refl
    by_fact (Dropped q upto) h grown = absurd h
    by_fact g h grown = still_ g refl refl grown

-- ---- what is held

held-join : (r : List Fact) (f : Fact) (t n : ℕ) → has_number (held (r ++ f ∷ []) t) n
    ≡ (in_ranges (purged r t ++ purged_of t f) n || has_number (numbers_of (received r t ++ received_of t f)) n)
held-join r f t n =
    has_number-held (purged (r ++ f ∷ []) t) (received (r ++ f ∷ []) t) n
    ∙ ap (λ z. in_ranges z n || has_number (numbers_of (received (r ++ f ∷ []) t)) n)
    (flat_map-append (purged_of t) r (f ∷ []) ∙ ap (λ z. purged r t ++ z) (append-nil (purged_of t f)))
    ∙ ap (λ z. in_ranges (purged r t ++ purged_of t f) n || has_number (numbers_of z) n)
    (flat_map-append (received_of t) r (f ∷ []) ∙ ap (λ z. received r t ++ z) (append-nil (received_of t f)))

held-still : (r : List Fact) (f : Fact) (t n : ℕ) → purged_of t f ≡ [] → received_of t f ≡ []
    → has_number (held (r ++ f ∷ []) t) n ≡ has_number (held r t) n
held-still r f t n p q =
    held-join r f t n
    ∙ ap (λ z. in_ranges (purged r t ++ z) n || has_number (numbers_of (received r t ++ received_of t f)) n) p
    ∙ ap (λ z. in_ranges z n || has_number (numbers_of (received r t ++ received_of t f)) n) (append-nil (purged r t))
    ∙ ap (λ z. in_ranges (purged r t) n || has_number (numbers_of (received r t ++ z)) n) q
    ∙ ap (λ z. in_ranges (purged r t) n || has_number (numbers_of z) n) (append-nil (received r t))
    ∙ sym (has_number-held (purged r t) (received r t) n)

-- a number that is held then was held, or is the one that was received
held-more : (r : List Fact) (i : ℕ) (p : Payload) (t n : ℕ) → has_number (held (r ++ Received t i p ∷ []) t) n ≡ true
    → (has_number (held r t) n ≡ true) ⊎ (i ≡ n)
held-more r i p t n h = parts (i == n) refl
  where
    same : (t == t) ≡ true
    same = grind (arith, nat_tests)

    split : (in_ranges (purged r t) n || (has_number (numbers_of (received r t)) n || has_number (i ∷ []) n)) ≡ true
    split =
        sym (held-join r (Received t i p) t n
        ∙ ap (λ z. in_ranges z n || has_number (numbers_of (received r t ++ received_of t (Received t i p))) n)
        (append-nil (purged r t))
        ∙ ap (λ b. in_ranges (purged r t) n
        || has_number (numbers_of (received r t ++ cond b ((i, p) ∷ []) [])) n) same
        ∙ ap (λ z. in_ranges (purged r t) n || has_number z n)
        (map-append (λ (m : ℕ × Payload). m.0) (received r t) ((i, p) ∷ []))
        ∙ ap (λ b. in_ranges (purged r t) n || b) (has-more (numbers_of (received r t)) (i ∷ []) n)) ∙ h

    three : (x y z : Bool) → z ≡ false → (x || (y || (z || false))) ≡ true → (x || y) ≡ true
    three true y z e k = refl
    three false true z e k = refl
    three false false z e k = absurd (false≢true (sym (ap (λ b. b || false) e) ∙ k))

    left : (i == n) ≡ false → (in_ranges (purged r t) n || has_number (numbers_of (received r t)) n) ≡ true
    left e = three (in_ranges (purged r t) n) (has_number (numbers_of (received r t)) n) (i == n) e split

    parts : (b : Bool) → (i == n) ≡ b → (has_number (held r t) n ≡ true) ⊎ (i ≡ n)
    parts true e = inr (eqb-true i n e)
    parts false e = inl (has_number-held (purged r t) (received r t) n ∙ left e)

near-one : NumbersAreFromOne → FrontIsReached → (r : List Fact) (f : Fact) (t n : ℕ) → all_fit [] r ≡ true
    → all_fit [] (r ++ f ∷ []) ≡ true → MayFollow r f
    → ((i : ℕ) → has_number (held r t) i ≡ true → i ≤ front r t + window)
    → has_number (held (r ++ f ∷ []) t) n ≡ true → n ≤ front (r ++ f ∷ []) t + window
near-one from reached r f t n fit more follows near has =
    by_fact f follows (front-grows from reached r (f ∷ []) t fit more) has
  where
    was : (m : ℕ) (g : Fact) → front r t ≤ front (r ++ g ∷ []) t → m ≤ front r t + window
        → m ≤ front (r ++ g ∷ []) t + window
    was m g up le = omega (arith, up, le)

    here : (i : ℕ) (p : Payload) → i ≤ front r t + window → front r t ≤ front (r ++ Received t i p ∷ []) t
        → has_number (held (r ++ Received t i p ∷ []) t) n ≡ true
        → n ≤ front (r ++ Received t i p ∷ []) t + window
    here i p le up h = elim (held-more r i p t n h) [
      | inl held_ ↦ was n (Received t i p) up (near n held_)
      | inr is ↦ was n (Received t i p) up (subst (λ z. z ≤ front r t + window) is le)
    ]

    by_fact : (g : Fact) → MayFollow r g → front r t ≤ front (r ++ g ∷ []) t
        → has_number (held (r ++ g ∷ []) t) n ≡ true → n ≤ front (r ++ g ∷ []) t + window
    by_fact (Received q i p) le up h =
        elim (q == t) as (λ b. (q == t) ≡ b → n ≤ front (r ++ Received q i p ∷ []) t + window) [
          | true ↦ λ e.
              let is = eqb-true q t e in
              subst (λ z. n ≤ front (r ++ Received z i p ∷ []) t + window) (sym is)
              (here i p (subst (λ z. i ≤ front r z + window) is le)
              (subst (λ z. front r t ≤ front (r ++ Received z i p ∷ []) t) is up)
              (subst (λ z. has_number (held (r ++ Received z i p ∷ []) t) n ≡ true) is h))
          | false ↦ λ e. was n (Received q i p) up
              (near n (sym (held-still r (Received q i p) t n refl (ap (λ b. cond b ((i, p) ∷ []) []) e)) ∙ h))
        ] refl
    by_fact (Purged q ranges) le up h = absurd le
    by_fact g le up h = was n g up (near n (sym (held-still r g t n refl refl) ∙ h))

-- ---- all records of a call

pub record NearLaws : Type 0 where
  pub both : UnionHasBoth
  pub from : NumbersAreFromOne
  pub reached : FrontIsReached
  pub knows : SnapshotKnowsAll

one-near : NearLaws → (r : List Fact) (f : Fact) → all_fit [] r ≡ true → HaveProper r
    → all_fit [] (r ++ f ∷ []) ≡ true → HaveProper (r ++ f ∷ []) → MayFollow r f → IsNear r → IsNear (r ++ f ∷ [])
one-near laws r f fit proper more proper_ follows h = record {
  few = λ s. few-one laws.both r f s fit proper more proper_ follows (h.few s);
  near = λ t n has. near-one laws.from laws.reached r f t n fit more follows (h.near t) has;
}

fit-first : (b r d : List Fact) → all_fit b (r ++ d) ≡ true → all_fit b r ≡ true
fit-first b [] d h = refl
fit-first b (f ∷ r) d h =
    let parts = and_parts (fits b f) (all_fit (b ++ f ∷ []) (r ++ d)) h in
    ap (λ z. z && all_fit (b ++ f ∷ []) r) parts.0 ∙ fit-first (b ++ f ∷ []) r d parts.1

pub all-near : NearLaws → (r d : List Fact) → all_fit [] (r ++ d) ≡ true → HaveProper (r ++ d) → AllFollow r d
    → IsNear r → IsNear (r ++ d)
all-near laws r [] fit proper follows h = subst IsNear (sym (append-nil r)) h
all-near laws r (f ∷ d) fit proper follows h =
    let same : (r ++ f ∷ []) ++ d ≡ r ++ f ∷ d = append_assoc r (f ∷ []) d in
    let fit_ : all_fit [] ((r ++ f ∷ []) ++ d) ≡ true = subst (λ z. all_fit [] z ≡ true) (sym same) fit in
    let proper_ : HaveProper ((r ++ f ∷ []) ++ d) = subst HaveProper (sym same) proper in
    subst IsNear same (all-near laws (r ++ f ∷ []) d fit_ proper_ follows.1
    (one-near laws r f (fit-first [] r (f ∷ d) fit) (all-front HasProper r (f ∷ d) proper)
    (fit-first [] (r ++ f ∷ []) d fit_)
    (all-front HasProper (r ++ f ∷ []) d proper_) follows.0 h))

pub short-near : NearLaws → (r : List Fact) → all_fit [] r ≡ true → HaveProper r → IsNear r → IsNear (snapshot r)
short-near laws r fit proper h =
    let it = laws.knows r fit proper in
    record {
      few = λ s. subst (λ n. n ≤ window) (sym (it.unacked_.unacked_ s)) (h.few s);
      near = λ t n has. subst (λ m. n ≤ m + window) (sym (it.each t).front_)
          (h.near t n (sym ((it.says.got t).held_ n) ∙ has));
    }
