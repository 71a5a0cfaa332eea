-- A node and the one behind it, by the records of both: what the one counts as acknowledged the other received, and
-- without a source the other received nothing.
use Rattle.std.proofs.Common.{◌≡◌, ◌⊎◌, ℕ, zero, suc, ◌+◌, ◌<◌, ◌≤◌, ◌==◌, ◌||◌, cond, Bool, true, false, List, [], ◌∷◌}
use Rattle.std.proofs.Common.{◌++◌, refl, sym, ap, ◌∙◌, arith, subst, map, inl, inr, ◌^◌}
use Rattle.std.specs.Prelude.{Option, Some, None, slice_get}
use Rattle.std.specs.List.{AllByRecursion}
use Rattle.std.proofs.lemmas.Bool.{eqb-true}
use Rattle.rm_sides.specs.declared.ranges.range.Range.{Range}
use Rattle.rm_sides.specs.Ranges.Ranges.{in_ranges}
use Rattle.rm_base.specs.Numbered.{numbered}
use Rattle.rm_base.specs.NumberSet.{has_number}
use Rattle.rm_sides.specs.Destination.ItemLemmas.{numbers_of-there}
use Rattle.rm_sides.specs.Destination.Messages.{gone_items, numbers_in, numbers_of, there_items}
use Rattle.record_batch.specs.Fact.{Fact, Acked, Dropped, Received}
use Rattle.record_batch.specs.Snapshot.AckedLemmas.{in_ranges-join}
use Rattle.record_batch.specs.Sequences.Destinations.{held, received}
use Rattle.record_batch.specs.Sequences.Find.{IsIncoming, incoming_of}
use Rattle.record_batch.specs.Sequences.Idents.{IssuesOnce}
use Rattle.record_batch.specs.Sequences.Makers.{Maker, Outgoing, Offered, Incoming, Taken, counter, makers, number}
use Rattle.record_batch.specs.Sequences.Sources.{acked}
use Rattle.record_batch.specs.Sequences.Words.{Text}
use Rattle.rm_protocol.specs.Pair.{IsBetweenThem}
use Rattle.rm_protocol.specs.Sound.{Agree, AreKept, IfWith, IsHeld, IsSourced, IsWith, Justified, Keeps, NothingIsGone}
use Rattle.rm_protocol.specs.Sound.{Owns, Rises, drawn, highest}
use Rattle.rm_protocol.specs.Word.{HasNoSource, Matches}
use Rattle.rm_relay.specs.Word.FirstLemmas.{numbered-at}
use Rattle.rm_relay.proofs.WordLemmas.ReleasedLemmas.{none-gone}

-- what holds of a sequence where it is with the other node
holds-with : (a b : List Fact) (s : ℕ) (P : Type 0) → IsBetweenThem a b s → IfWith a b s P → P
holds-with a b s P w f =
    let same : w.maker_ ≡ f.maker_ = cc (w.there, f.there) in f.holds (subst (IsWith b) same w.with_)

-- ---- without a source

-- nothing was received
pub none-received : (a b : List Fact) (t : ℕ) → IsBetweenThem b a t → HasNoSource a b t → (r : List Fact)
    → AllByRecursion (Justified b a) r → received r t ≡ []
none-received a b t w none [] h = refl
none-received a b t w none (Received s i p ∷ r) h =
    elim (s == t) as (λ z. (s == t) ≡ z → cond z ((i, p) ∷ []) [] ++ received r t ≡ []) [
      | true ↦ λ e.
          let at = subst (λ y. IfWith b a y (IsSourced b a y i p.bytes)) (eqb-true s t e) h.0 in
          let from = holds-with b a t (IsSourced b a t i p.bytes) w at in
          absurd (none from.sent.seq (record {
            ident = from.ident;
            message_id = from.message_id;
            outgoing = from.sent.outgoing;
            incoming = from.incoming;
          }))
      | false ↦ λ e. none-received a b t w none r h.1
    ] refl
none-received a b t w none (rec ∷ r) h = none-received a b t w none r h.1

-- ---- an identifier has one incoming sequence

numbered-next : {A : Type 0} (xs : List A) (k : ℕ) → numbered xs (suc k) ≡ slice_get xs k
numbered-next xs k = ap (λ n. numbered xs n) (let e : suc k ≡ k + 1 = omega arith in e) ∙ numbered-at xs k

get-map : {A B : Type 0} (f : A → B) (xs : List A) (k : ℕ) (x : A) → slice_get xs k ≡ Some x
    → slice_get (map f xs) k ≡ Some (f x)
get-map f [] k x e = absurd (cc)
get-map f (y ∷ ys) zero x e = let same : y ≡ x = cc in ap (λ z. Some (f z)) same
get-map f (y ∷ ys) (suc k) x e = get-map f ys k x e

numbered-map : {A B : Type 0} (f : A → B) (xs : List A) (k : ℕ) (x : A) → numbered xs k ≡ Some x
    → numbered (map f xs) k ≡ Some (f x)
numbered-map f xs zero x e = absurd (cc)
numbered-map f xs (suc k) x e = numbered-next (map f xs) k ∙ get-map f xs k x (sym (numbered-next xs k) ∙ e)

rises-above : (low : ℕ) (xs : List (Option ℕ)) (k x : ℕ) → Rises low xs → slice_get xs k ≡ Some (Some x) → low < x
rises-above low [] k x h e = absurd (cc)
rises-above low (None ∷ ys) zero x h e = absurd (cc)
rises-above low (None ∷ ys) (suc k) x h e = rises-above low ys k x h e
rises-above low (Some y ∷ ys) zero x h e = let same : y ≡ x = cc in let l : low < y = h.0 in omega arith
rises-above low (Some y ∷ ys) (suc k) x h e =
    let l : low < y = h.0 in let m : y < x = rises-above y ys k x h.1 e in omega arith

rises-once : (low : ℕ) (xs : List (Option ℕ)) (i j x : ℕ) → Rises low xs → slice_get xs i ≡ Some (Some x)
    → slice_get xs j ≡ Some (Some x) → i ≡ j
rises-once low [] i j x h e f = absurd (cc)
rises-once low (None ∷ ys) zero j x h e f = absurd (cc)
rises-once low (None ∷ ys) (suc i) zero x h e f = absurd (cc)
rises-once low (None ∷ ys) (suc i) (suc j) x h e f = ap (λ n. suc n) (rises-once low ys i j x h e f)
rises-once low (Some y ∷ ys) zero zero x h e f = refl
rises-once low (Some y ∷ ys) zero (suc j) x h e f =
    let same : y ≡ x = cc in let l : y < x = rises-above y ys j x h.1 f in absurd (omega arith)
rises-once low (Some y ∷ ys) (suc i) zero x h e f =
    let same : y ≡ x = cc in let l : y < x = rises-above y ys i x h.1 e in absurd (omega arith)
rises-once low (Some y ∷ ys) (suc i) (suc j) x h e f = ap (λ n. suc n) (rises-once y ys i j x h.1 e f)

-- a number stands at one place among rising ones
one-place : (xs : List (Option ℕ)) (i j x : ℕ) → Rises 0 xs → numbered xs i ≡ Some (Some x)
    → numbered xs j ≡ Some (Some x) → i ≡ j
one-place xs zero j x h e f = absurd (cc)
one-place xs (suc i) zero x h e f = absurd (cc)
one-place xs (suc i) (suc j) x h e f =
    ap (λ n. suc n) (rises-once 0 xs i j x h (sym (numbered-next xs i) ∙ e) (sym (numbered-next xs j) ∙ f))

rises-least : (low : ℕ) (xs : List (Option ℕ)) → Rises low xs → low ≤ highest low xs
rises-least low [] h = omega arith
rises-least low (None ∷ xs) h = rises-least low xs h
rises-least low (Some x ∷ xs) h =
    let l : low < x = h.0 in let m : x ≤ highest x xs = rises-least x xs h.1 in omega arith

rises-within : (low : ℕ) (xs : List (Option ℕ)) (k x : ℕ) → Rises low xs → slice_get xs k ≡ Some (Some x)
    → x ≤ highest low xs
rises-within low [] k x h e = absurd (cc)
rises-within low (None ∷ ys) zero x h e = absurd (cc)
rises-within low (None ∷ ys) (suc k) x h e = rises-within low ys k x h e
rises-within low (Some y ∷ ys) zero x h e =
    let same : y ≡ x = cc in subst (λ z. z ≤ highest y ys) same (rises-least y ys h.1)
rises-within low (Some y ∷ ys) (suc k) x h e = rises-within y ys k x h.1 e

-- a number among rising ones is at most the last
below-last : (xs : List (Option ℕ)) (i x : ℕ) → Rises 0 xs → numbered xs i ≡ Some (Some x) → x ≤ highest 0 xs
below-last xs zero x h e = absurd (cc)
below-last xs (suc i) x h e = rises-within 0 xs i x h (sym (numbered-next xs i) ∙ e)

abbrev first-in : ℕ → Option (ℕ × Text) → ℕ
first-in c None = c
first-in c (Some x) = x.0

drawn-made : (n : ℕ) (m : Maker) (c : ℕ) (t : Text) → incoming_of n m ≡ Some (c, t) → drawn m ≡ Some c
drawn-made n (Incoming d u k y l z) c t e = ap (λ o. Some (first-in d o)) e
drawn-made n (Offered k d to y) c t e = ap (λ o. Some (first-in d o)) e
drawn-made n (Outgoing k to v l) c t e = absurd (cc)
drawn-made n (Taken u q k) c t e = absurd (cc)

drawn-at : (r : List Fact) (s : ℕ) (q u : Text) (h : IsIncoming r s q u)
    → numbered (map drawn (makers r)) s ≡ Some (Some h.counter)
drawn-at r s q u h =
    numbered-map drawn (makers r) s h.maker_ h.there
    ∙ ap (λ o. Some o) (drawn-made (number r) h.maker_ h.counter u h.made)

-- the number of the node and those that it drew are few
pub record IsSmall (n : ℕ) (r : List Fact) : Type 0 where
  pub node : n < 2 ^ 60
  pub drew : counter r < 2 ^ 62

drawn-small : (n : ℕ) (r : List Fact) (s : ℕ) (q u : Text) (h : IsIncoming r s q u) → Owns n r → IsSmall n r
    → h.counter < 2 ^ 62
drawn-small n r s q u h o small =
    let below : h.counter ≤ highest 0 (map drawn (makers r)) =
    below-last (map drawn (makers r)) s h.counter o.rising (drawn-at r s q u h) in
    let counted : highest 0 (map drawn (makers r)) ≤ counter r = o.below in
    let few : counter r < 2 ^ 62 = small.drew in
    omega arith

one-incoming : IssuesOnce → (n : ℕ) (r : List Fact) (s t : ℕ) (q u v : Text) → IsSmall n r → Owns n r
    → IsIncoming r s q u → IsIncoming r t q v → s ≡ t
one-incoming once n r s t q u v small o h k =
    let node : number r < 2 ^ 60 = subst (λ z. z < 2 ^ 60) (sym o.number) small.node in
    let same : h.counter ≡ k.counter =
    once (number r) h.counter k.counter node (drawn-small n r s q u h o small) (drawn-small n r t q v k o small)
    (sym h.is ∙ k.is) in
    one-place (map drawn (makers r)) s t h.counter o.rising (drawn-at r s q u h)
    (drawn-at r t q v k ∙ ap (λ z. Some (Some z)) (sym same))

-- ---- what is acknowledged

in-either : (xs ys : List Range) (n : ℕ) → in_ranges (xs ++ ys) n ≡ true
    → (in_ranges xs n ≡ true) ⊎ (in_ranges ys n ≡ true)
in-either xs ys n h = either (in_ranges xs n) (in_ranges ys n) (sym (in_ranges-join xs ys n) ∙ h)
  where
    either : (x y : Bool) → (x || y) ≡ true → (x ≡ true) ⊎ (y ≡ true)
    either true y e = inl refl
    either false y e = inr e

-- it stands in a record
acked-one : (a b : List Fact) (s n : ℕ) (P : Type 0) → IsBetweenThem a b s
    → ((ns : List Range) → AreKept a b s ns → in_ranges ns n ≡ true → P)
    → (r : List Fact) → NothingIsGone r → AllByRecursion (Justified a b) r → in_ranges (acked r s) n ≡ true → P
acked-one a b s n P w f [] live h e = absurd (cc)
acked-one a b s n P w f (Dropped t upto ∷ r) live h e = absurd live.0
acked-one a b s n P w f (Acked t ns ∷ r) live h e =
    elim (t == s) as (λ z. (t == s) ≡ z → in_ranges (cond z ns [] ++ acked r s) n ≡ true → P) [
      | true ↦ λ d k. elim (in-either ns (acked r s) n k) [
        | inl x ↦
            let at = subst (λ y. IfWith a b y (AreKept a b y ns)) (eqb-true t s d) h.0 in
            f ns (holds-with a b s (AreKept a b s ns) w at) x
        | inr x ↦ acked-one a b s n P w f r live.1 h.1 x
      ]
      | false ↦ λ d k. acked-one a b s n P w f r live.1 h.1 k
    ] refl e
acked-one a b s n P w f (rec ∷ r) live h e = acked-one a b s n P w f r live.1 h.1 e

-- all that the other node ever had holds it on the matching sequence
acked-received : IssuesOnce → (n m : ℕ) (a b : List Fact) → Agree n m a b → IsSmall m b → NothingIsGone a
    → (s t : ℕ) → IsBetweenThem a b s → Matches a b s t → (i : ℕ) → in_ranges (acked a s) i ≡ true
    → has_number (numbers_of (received b t)) i ≡ true
acked-received once n m a b h small live s t w k i e =
    acked-one a b s i (has_number (numbers_of (received b t)) i ≡ true) w (λ ns kept there.
    let name : kept.ident ≡ k.ident = cc (kept.outgoing.is, k.outgoing.is) in
    let has : IsHeld b kept.ident i = kept.each i there in
    let same : has.seq ≡ t = one-incoming once m b has.seq t k.ident has.message_id k.message_id small h.others
    (subst (λ z. IsIncoming b has.seq z has.message_id) name has.incoming) k.incoming in
    subst (λ z. has_number (numbers_of (received b z)) i ≡ true) same has.has) a live h.justified e

held-received : (r : List Fact) (t : ℕ) → NothingIsGone r → held r t ≡ numbers_of (received r t)
held-received r t live =
    ap (λ ps. numbers_of (gone_items (numbers_in ps) ++ there_items (received r t))) (none-gone r t live)
    ∙ numbers_of-there (received r t)

-- and so do the records that it has
pub acked-held : IssuesOnce → (n m : ℕ) (a b b_whole : List Fact) → Agree n m a b_whole → IsSmall m b_whole
    → NothingIsGone a → Keeps b b_whole → (s t : ℕ) → IsBetweenThem a b_whole s → Matches a b_whole s t → (i : ℕ)
    → in_ranges (acked a s) i ≡ true → has_number (held b t) i ≡ true
acked-held once n m a b b_whole h small live keeps s t w k i e =
    (keeps.same.got t).held_ i
    ∙ ap (λ ns. has_number ns i) (held-received b_whole t keeps.live)
    ∙ acked-received once n m a b_whole h small live s t w k i e
