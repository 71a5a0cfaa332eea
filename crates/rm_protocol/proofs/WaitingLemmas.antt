-- Which keys one more record begins: none but that of the record.
use Rattle.std.proofs.Common.{◌≡◌, ◌≢◌, ◌⊎◌, ℕ, zero, suc, ◌+◌, ◌<◌, ◌≤◌, ◌==◌, ◌&&◌, ◌||◌, not, nat_lt, nat_le, min}
use Rattle.std.proofs.Common.{max}
use Rattle.std.proofs.Common.{cond, Bool, true, false, List, [], ◌∷◌, ◌++◌, length, refl, sym, ap, ap₂, ◌∙◌, subst}
use Rattle.std.proofs.Common.{arith, inl, inr}
use Rattle.std.proofs.Common.{append-nil, append_assoc, length-append}
use Rattle.std.specs.Prelude.{Option, Some, None, slice_get}
use Rattle.std.specs.Option.{option_or}
use Rattle.std.proofs.lemmas.Bool.{and_parts, eqb-true, eq-eqb, false≢true}
use Rattle.std.proofs.lemmas.Bool.Decides.{nat_tests}
use Rattle.rm_sides.specs.declared.ranges.range.Range.{Range}
use Rattle.rm_sides.specs.Ranges.Ranges.{is_between, in_range, in_ranges}
use Rattle.rm_sides.specs.Ranges.Changes.{with_range, united}
use Rattle.rm_sides.specs.declared.source.phase.OutPhase.{OutPhase}
use Rattle.rm_sides.specs.declared.source.phase.OutPhase.TheVariants as out
use Rattle.rm_sides.specs.Source.Outgoing.{Sending, accepted_count as count_of, first_run}
use Rattle.timers.specs.declared.slots.timers.Key.{Key}
use Rattle.timers.specs.Keys.Waits.{same_key, has_key}
use Rattle.timers.specs.Keys.KeyLemmas.{same_key-is}
use Rattle.record_batch.specs.Fact.{Fact, Creating, Created, Granted, Accepted, Acked, Closing}
use Rattle.record_batch.specs.Fact.{ClosedOut, Dropped, Ending, EndedOut, Failed}
use Rattle.rm_base.specs.Numbered.{numbered}
use Rattle.rm_base.specs.declared.message.Behaviour.{Behaviour}
use Rattle.wsa_headers.specs.declared.endpoint.Epr.{Epr}
use Rattle.rm_base.specs.declared.lapse.Lapse.{Lapse}
use Rattle.record_batch.specs.declared.record.OwnOffer.{OwnOffer}
use Rattle.record_batch.specs.declared.record.PeerOffer.{PeerOffer}
use Rattle.record_batch.specs.declared.record.Via.{Via}
use Rattle.record_batch.specs.Sequences.Words.{Text, at_seq, last_or}
use Rattle.record_batch.specs.Sequences.Makers.{Maker, Outgoing, Offered, Incoming, Taken, makers, makers_of, maker}
use Rattle.record_batch.specs.Sequences.Makers.{created_of, ident_in}
use Rattle.record_batch.specs.Sequences.Sources.{accepted, accepted_count, accepted_of, dropped, dropped_of}
use Rattle.record_batch.specs.Sequences.Sources.{first_phase}
use Rattle.record_batch.specs.Sequences.Sources.{is_sending, phase, marks, mark_of, out_ident}
use Rattle.record_batch.specs.Sequences.GatherLemmas.{flat_map-more, at_seq-more}
use Rattle.record_batch.specs.Sequences.NameLemmas.{names-within, names-fit, elsewhere_accepted, elsewhere_dropped}
use Rattle.record_batch.specs.Sequences.NameLemmas.{elsewhere_mark, unnamed, unnamed_at, unnamed_ident}
use Rattle.record_batch.specs.Sequences.Fits.{fits, all_fit, follows, follows_at, is_outgoing_side}
use Rattle.record_batch.specs.Sequences.Told.{Told, Side, Sends, Receives, names, sending, sending_after}
use Rattle.std.specs.List.{AllByRecursion, flat_map}
use Rattle.record_batch.specs.Sequences.ToldLemmas.{sending-more, after-elsewhere}
use Rattle.record_batch.specs.Sequences.PhaseLemmas.{created-creating, out_ident-more}
use Rattle.rm_protocol.proofs.ListLemmas.{numbered-next, numbered-append, numbered-within, numbered-last}
use Rattle.rm_protocol.specs.Exact.{AreWithin}
use Rattle.rm_protocol.specs.Waiting.{key, is_requesting, waits_in, waits_of, is_waiting, begun_of}

-- ---- numbers stay in ranges that are united with others

or-first : (x y : Bool) → x ≡ true → (x || y) ≡ true
or-first true y h = refl
or-first false y h = absurd (cc)

or-second : (x y : Bool) → y ≡ true → (x || y) ≡ true
or-second true y h = refl
or-second false y h = h

or-either : (x y : Bool) → (x || y) ≡ true → (x ≡ true) ⊎ (y ≡ true)
or-either true y h = inl refl
or-either false y h = inr h

wider : (a b l u n : ℕ) → is_between l u n ≡ true → is_between (min a l) (max b u) n ≡ true
wider a b l u n h = grind (arith, nat_tests, h)

wider-first : (a b l u n : ℕ) → is_between a b n ≡ true → is_between (min a l) (max b u) n ≡ true
wider-first a b l u n h = grind (arith, nat_tests, h)

pub with_range-adds : (rs : List Range) (l u n : ℕ) → is_between l u n ≡ true → in_ranges (with_range rs l u) n ≡ true
with_range-adds [] l u n h = or-first (is_between l u n) false h
with_range-adds (r ∷ rs) l u n h =
    elim (nat_lt (r.upper + 1) l) as (λ b. in_ranges (cond b (r ∷ with_range rs l u)
    (cond (nat_lt (u + 1) r.lower) (record { lower = l; upper = u } ∷ r ∷ rs)
    (with_range rs (min r.lower l) (max r.upper u)))) n ≡ true) [
      | true ↦ or-second (in_range r n) (in_ranges (with_range rs l u) n) (with_range-adds rs l u n h)
      | false ↦ elim (nat_lt (u + 1) r.lower) as (λ b. in_ranges (cond b (record { lower = l; upper = u } ∷ r ∷ rs)
          (with_range rs (min r.lower l) (max r.upper u))) n ≡ true) [
            | true ↦ or-first (is_between l u n) (in_ranges (r ∷ rs) n) h
            | false ↦ with_range-adds rs (min r.lower l) (max r.upper u) n (wider r.lower r.upper l u n h)
          ]
    ]

with_range-keeps : (rs : List Range) (l u n : ℕ) → in_ranges rs n ≡ true → in_ranges (with_range rs l u) n ≡ true
with_range-keeps [] l u n h = absurd (cc)
with_range-keeps (r ∷ rs) l u n h =
    elim (nat_lt (r.upper + 1) l) as (λ b. in_ranges (cond b (r ∷ with_range rs l u)
    (cond (nat_lt (u + 1) r.lower) (record { lower = l; upper = u } ∷ r ∷ rs)
    (with_range rs (min r.lower l) (max r.upper u)))) n ≡ true) [
      | true ↦ elim (or-either (in_range r n) (in_ranges rs n) h) [
        | inl x ↦ or-first (in_range r n) (in_ranges (with_range rs l u) n) x
        | inr x ↦ or-second (in_range r n) (in_ranges (with_range rs l u) n) (with_range-keeps rs l u n x)
      ]
      | false ↦ elim (nat_lt (u + 1) r.lower) as (λ b. in_ranges (cond b (record { lower = l; upper = u } ∷ r ∷ rs)
          (with_range rs (min r.lower l) (max r.upper u))) n ≡ true) [
            | true ↦ or-second (is_between l u n) (in_ranges (r ∷ rs) n) h
            | false ↦ elim (or-either (in_range r n) (in_ranges rs n) h) [
              | inl x ↦ with_range-adds rs (min r.lower l) (max r.upper u) n (wider-first r.lower r.upper l u n x)
              | inr x ↦ with_range-keeps rs (min r.lower l) (max r.upper u) n x
            ]
          ]
    ]

pub united-keeps : (xs ys : List Range) (n : ℕ) → in_ranges xs n ≡ true → in_ranges (united xs ys) n ≡ true
united-keeps xs [] n h = h
united-keeps xs (y ∷ ys) n h =
    united-keeps (with_range xs y.lower y.upper) ys n (with_range-keeps xs y.lower y.upper n h)

not-before : (xs ys : List Range) (n : ℕ) → not (in_ranges (united xs ys) n) ≡ true → not (in_ranges xs n) ≡ true
not-before xs ys n h =
    elim (in_ranges xs n) as (λ b. in_ranges xs n ≡ b → not b ≡ true) [
      | true ↦ λ e. let more = united-keeps xs ys n e in absurd (cc)
      | false ↦ λ e. refl
    ] refl

-- ---- one sequence, and one more record

-- the record begins key i of sequence s, of which n messages were accepted
abbrev pub begins : ℕ → ℕ → ℕ → Fact → Bool
begins s i n (Accepted seq payload) = (seq == s) && (i == n + 1)
begins s i n (Closing seq ticket) = (seq == s) && (i == 0)
begins s i n (Ending seq ticket) = (seq == s) && (i == 0)
begins s i n _ = false

-- what is known, with other parts
abbrev known : OutPhase → ℕ → List (List ℕ) → List Range → Sending
known p d a k = record { phase = p; dropped = d; accepted = a; acked = k }

unlonger : (p : OutPhase) (d : ℕ) (a : List (List ℕ)) (k : List Range) (i : ℕ)
    → waits_in (known p d (a ++ []) k) i ≡ true → waits_in (known p d a k) i ≡ true
unlonger p d a k i h = subst (λ v. waits_in (known p d v k) i ≡ true) (append-nil a) h

-- a mark of a phase in which nothing waits
silent-mark : (q : OutPhase) → is_requesting q ≡ false → is_sending q ≡ false → (d : ℕ) (a : List (List ℕ))
    (k : List Range) (i : ℕ) → waits_in (known q d a k) i ≡ true → ⊥
silent-mark q x y d a k zero h = false≢true (sym x ∙ h)
silent-mark q x y d a k (suc i) h = false≢true (sym y ∙ (and_parts (is_sending q) _ h).0)

marked : (q : OutPhase) → is_requesting q ≡ false → is_sending q ≡ false → (seq s : ℕ)
    (t : Sending) (i n : ℕ) (x : Bool)
    → waits_in (known (last_or t.phase (at_seq s ((seq, q) ∷ []))) t.dropped (t.accepted ++ []) t.acked) i ≡ true
    → (waits_in t i ≡ true) ⊎ (x ≡ true)
marked q x y seq s t i n z h =
    elim (seq == s) as (λ b.
    waits_in (known (last_or t.phase (cond b (q ∷ []) [])) t.dropped (t.accepted ++ []) t.acked) i ≡ true
    → (waits_in t i ≡ true) ⊎ (z ≡ true)) [
      | true ↦ λ e. absurd (silent-mark q x y t.dropped (t.accepted ++ []) t.acked i e)
      | false ↦ λ e. inl (unlonger t.phase t.dropped t.accepted t.acked i e)
    ] h

closing-open : (p : OutPhase) (seq ticket : ℕ) → follows p (Closing seq ticket) ≡ true → is_sending p ≡ true
closing-open out.Open seq ticket e = refl
closing-open _ seq ticket e = absurd (false≢true e)

asked : (q : OutPhase) → is_requesting q ≡ true → (seq s : ℕ) (t : Sending) (i : ℕ)
    → (is_sending q ≡ true → (seq == s) ≡ true → is_sending t.phase ≡ true)
    → waits_in (known (last_or t.phase (at_seq s ((seq, q) ∷ []))) t.dropped (t.accepted ++ []) t.acked) i ≡ true
    → (waits_in t i ≡ true) ⊎ (((seq == s) && (i == 0)) ≡ true)
asked q x seq s t i goes h =
    elim (seq == s) as (λ b. (seq == s) ≡ b
    → waits_in (known (last_or t.phase (cond b (q ∷ []) [])) t.dropped (t.accepted ++ []) t.acked) i ≡ true
    → (waits_in t i ≡ true) ⊎ ((b && (i == 0)) ≡ true)) [
      | true ↦ λ e. by_number i e
      | false ↦ λ e k. inl (unlonger t.phase t.dropped t.accepted t.acked i k)
    ] refl h
  where
    by_number : (j : ℕ) → (seq == s) ≡ true → waits_in (known q t.dropped (t.accepted ++ []) t.acked) j ≡ true
        → (waits_in t j ≡ true) ⊎ ((j == 0) ≡ true)
    by_number zero e k = inr refl
    by_number (suc j) e k =
        let parts = and_parts (is_sending q) _ (unlonger q t.dropped t.accepted t.acked (suc j) k) in
        inl (ap (λ b. b && (nat_le (suc j) (count_of t) && not (in_ranges t.acked (suc j))))
        (goes parts.0 e) ∙ parts.1)

-- ---- a sequence that is there

accepted-one : (t : Sending) (seq s i : ℕ) (p : List ℕ)
    → waits_in (known t.phase t.dropped (t.accepted ++ cond (seq == s) (p ∷ []) []) t.acked) i ≡ true
    → (waits_in t i ≡ true) ⊎ (((seq == s) && (i == count_of t + 1)) ≡ true)
accepted-one t seq s i p h =
    elim (seq == s) as (λ b. waits_in (known t.phase t.dropped (t.accepted ++ cond b (p ∷ []) []) t.acked) i ≡ true
    → (waits_in t i ≡ true) ⊎ ((b && (i == count_of t + 1)) ≡ true)) [
      | true ↦ λ e. by_number i e
      | false ↦ λ e. inl (unlonger t.phase t.dropped t.accepted t.acked i e)
    ] h
  where
    by_number : (j : ℕ) → waits_in (known t.phase t.dropped (t.accepted ++ p ∷ []) t.acked) j ≡ true
        → (waits_in t j ≡ true) ⊎ ((j == count_of t + 1) ≡ true)
    by_number zero e = inl e
    by_number (suc j) e =
        let one = and_parts (is_sending t.phase) _ e in
        let two = and_parts (nat_le (suc j) (t.dropped + length (t.accepted ++ p ∷ [])))
        (not (in_ranges t.acked (suc j))) one.1 in
        let long : length (t.accepted ++ p ∷ []) ≡ length t.accepted + 1 = length-append t.accepted (p ∷ []) in
        elim (nat_le (suc j) (count_of t)) as (λ b. nat_le (suc j) (count_of t) ≡ b
        → (waits_in t (suc j) ≡ true) ⊎ ((suc j == count_of t + 1) ≡ true)) [
          | true ↦ λ d. inl (rw (one.0, d, two.1) refl)
          | false ↦ λ d. inr (grind (arith, nat_tests, d, two.0, long))
        ] refl

acked-one : (t : Sending) (i : ℕ) (ranges : List Range)
    → waits_in (known t.phase t.dropped (t.accepted ++ []) (united t.acked ranges)) i ≡ true → waits_in t i ≡ true
acked-one t zero ranges h = h
acked-one t (suc i) ranges h =
    let one = and_parts (is_sending t.phase) _
    (unlonger t.phase t.dropped t.accepted (united t.acked ranges) (suc i) h) in
    let two = and_parts (nat_le (suc i) (count_of t)) (not (in_ranges (united t.acked ranges) (suc i))) one.1 in
    rw (one.0, two.0, not-before t.acked ranges (suc i) two.1) refl

no-less : (i : ℕ) → nat_le (suc i) 0 ≡ false
no-less i = grind (arith, nat_tests)

-- nothing waits of an open sequence for which nothing was accepted
open-none : (d : ℕ) (a : List (List ℕ)) (k : List Range) (i : ℕ) → d + length a ≡ 0
    → waits_in (known out.Open d (a ++ []) k) i ≡ true → ⊥
open-none d a k zero e h = false≢true h
open-none d a k (suc i) e h =
    let parts = and_parts (nat_le (suc i) (d + length a)) (not (in_ranges k (suc i)))
    (unlonger out.Open d a k (suc i) h) in
    false≢true (sym (no-less i) ∙ ap (nat_le (suc i)) (sym e) ∙ parts.0)

-- of a sequence of which the first messages are gone, these are acknowledged
between-first : (i n : ℕ) → nat_le (suc i) n ≡ true → is_between 1 n (suc i) ≡ true
between-first i n h = grind (arith, nat_tests, h)

gone-none : (t : Sending) (upto i : ℕ) → count_of t ≡ 0
    → waits_in (known t.phase upto (t.accepted ++ []) (united t.acked (first_run upto))) (suc i) ≡ true → ⊥
gone-none t upto i none h =
    let one = and_parts (is_sending t.phase) _
    (unlonger t.phase upto t.accepted (united t.acked (first_run upto)) (suc i) h) in
    let two = and_parts (nat_le (suc i) (upto + length t.accepted))
    (not (in_ranges (united t.acked (first_run upto)) (suc i))) one.1 in
    let size : upto + length t.accepted ≡ upto = omega (arith, none) in
    let there : in_ranges (united t.acked (first_run upto)) (suc i) ≡ true =
    with_range-adds t.acked 1 upto (suc i) (between-first i upto (ap (nat_le (suc i)) (sym size) ∙ two.0)) in
    false≢true (ap not (sym there) ∙ two.1)

dropped-one : (t : Sending) (b : Bool) (upto i : ℕ) → (b ≡ true → count_of t ≡ 0)
    → waits_in (known t.phase (last_or t.dropped (cond b (upto ∷ []) [])) (t.accepted ++ [])
    (united t.acked (cond b (first_run upto) []))) i ≡ true → waits_in t i ≡ true
dropped-one t false upto i none h = unlonger t.phase t.dropped t.accepted t.acked i h
dropped-one t true upto zero none h = h
dropped-one t true upto (suc i) none h = absurd (gone-none t upto i (none refl) h)

step : (r : List Fact) (f : Fact) (s i : ℕ) → fits r f ≡ true → (phase r s ≡ out.Creating → accepted_count r s ≡ 0)
    → waits_in (sending_after s (sending r s) f) i ≡ true
    → (waits_in (sending r s) i ≡ true) ⊎ (begins s i (accepted_count r s) f ≡ true)
step r (Created seq ident accept) s i fit bare h =
    let t = sending r s in
    elim (seq == s) as (λ b. (seq == s) ≡ b
    → waits_in (known (cond b out.Open t.phase) t.dropped (t.accepted ++ []) t.acked) i ≡ true
    → (waits_in t i ≡ true) ⊎ (false ≡ true)) [
      | true ↦ λ e k.
          let creating : phase r s ≡ out.Creating =
          subst (λ n. phase r n ≡ out.Creating) (eqb-true seq s e) (created-creating r seq ident accept fit) in
          absurd (open-none t.dropped t.accepted t.acked i (bare creating) k)
      | false ↦ λ e k. inl (unlonger t.phase t.dropped t.accepted t.acked i k)
    ] refl h
step r (Accepted seq p) s i fit bare h = accepted-one (sending r s) seq s i p h
step r (Acked seq ranges) s i fit bare h = inl (acked-one (sending r s) i (cond (seq == s) ranges []) h)
step r (Closing seq ticket) s i fit bare h = asked out.Closing refl seq s (sending r s) i (λ x e. goes e) h
  where
    goes : (seq == s) ≡ true → is_sending (phase r s) ≡ true
    goes e =
        let there : follows_at r seq (Closing seq ticket) ≡ true =
        (and_parts _ (follows_at r seq (Closing seq ticket)) fit).1 in
        let may : follows (phase r seq) (Closing seq ticket) ≡ true =
        (and_parts (is_outgoing_side (maker r seq)) _ there).1 in
        subst (λ n. is_sending (phase r n) ≡ true) (eqb-true seq s e) (closing-open (phase r seq) seq ticket may)
step r (Ending seq ticket) s i fit bare h =
    asked out.Ending refl seq s (sending r s) i (λ x e. absurd (false≢true x)) h
step r (ClosedOut seq) s i fit bare h = marked out.Closed refl refl seq s (sending r s) i 0 false h
step r (EndedOut seq) s i fit bare h = marked out.Ended refl refl seq s (sending r s) i 0 false h
step r (Failed seq fault) s i fit bare h = marked out.Failed refl refl seq s (sending r s) i 0 false h
step r (Dropped seq upto) s i fit bare h = inl (dropped-one (sending r s) (seq == s) upto i none h)
  where
    none : (seq == s) ≡ true → accepted_count r s ≡ 0
    none e =
        let parts = and_parts (follows_at r seq (Dropped seq upto)) _ fit in
        let empty = (and_parts (accepted_count r seq == 0) _ parts.1).0 in
        subst (λ n. accepted_count r n ≡ 0) (eqb-true seq s e) (eqb-true (accepted_count r seq) 0 empty)
step r _ s i fit bare h = inl (unlonger (phase r s) (dropped r s) (accepted r s) (sending r s).acked i h)

begins-has : (r : List Fact) (f : Fact) (k : Key) → begins k.seq k.number (accepted_count r k.seq) f ≡ true
    → has_key (begun_of r f) k ≡ true
begins-has r (Accepted seq p) k h =
    let two = and_parts (seq == k.seq) (k.number == accepted_count r k.seq + 1) h in
    let is : seq ≡ k.seq = eqb-true seq k.seq two.0 in
    or-first (same_key k (key seq (accepted_count r seq + 1))) false
    (subst (λ z. same_key k (key z (accepted_count r z + 1)) ≡ true) (sym is) (rw (eq-eqb k.seq k.seq refl) two.1))
begins-has r (Closing seq ticket) k h =
    let two = and_parts (seq == k.seq) (k.number == 0) h in
    let is : seq ≡ k.seq = eqb-true seq k.seq two.0 in
    or-first (same_key k (key seq 0)) false
    (subst (λ z. same_key k (key z 0) ≡ true) (sym is) (rw (eq-eqb k.seq k.seq refl) two.1))
begins-has r (Ending seq ticket) k h =
    let two = and_parts (seq == k.seq) (k.number == 0) h in
    let is : seq ≡ k.seq = eqb-true seq k.seq two.0 in
    or-first (same_key k (key seq 0)) false
    (subst (λ z. same_key k (key z 0) ≡ true) (sym is) (rw (eq-eqb k.seq k.seq refl) two.1))
begins-has r _ k h = absurd (false≢true h)

-- ---- a sequence that the record makes

slice-behind : (xs ys : List Maker) (n : ℕ) (m : Maker) → slice_get xs n ≡ None → slice_get (xs ++ ys) n ≡ Some m
    → (j : ℕ) × (n ≡ length xs + j) × (slice_get ys j ≡ Some m)
slice-behind [] ys n m e h = (n, omega arith, h)
slice-behind (x ∷ xs) ys zero m e h = absurd (cc)
slice-behind (x ∷ xs) ys (suc n) m e h =
    let rest = slice-behind xs ys n m e h in
    (rest.0, omega (arith, rest.1), rest.2)

behind : (xs ys : List Maker) (s : ℕ) (m : Maker) → numbered xs s ≡ None → numbered (xs ++ ys) s ≡ Some m
    → (j : ℕ) × (s ≡ length xs + 1 + j) × (slice_get ys j ≡ Some m)
behind xs ys zero m e h = absurd (cc)
behind xs ys (suc n) m e h =
    let rest = slice-behind xs ys n m (sym (numbered-next xs n) ∙ e) (sym (numbered-next (xs ++ ys) n) ∙ h) in
    (rest.0, omega (arith, rest.1), rest.2)

none-accepted : (r : List Fact) (f : Fact) (s : ℕ) → all_fit [] r ≡ true → fits r f ≡ true → length (makers r) < s
    → accepted_count (r ++ f ∷ []) s ≡ 0
none-accepted r f s h fit past =
    let named = names-within r f fit in
    let accepts = none_in (accepted_of s) (λ g. elsewhere_accepted g s) (omega arith) in
    let drops = none_in (dropped_of s) (λ g. elsewhere_dropped g s) (omega arith) in
    ap (λ xs. last_or 0 xs + length (accepted (r ++ f ∷ []) s)) drops ∙ ap (λ xs. 0 + length xs) accepts
  where
    none_in : {A : Type 0} (g : Fact → List A) → ((x : Fact) → names x ≢ s → g x ≡ []) → names f < s
        → flat_map g (r ++ f ∷ []) ≡ []
    none_in g none below =
        flat_map-more g r f ∙ ap (λ xs. xs ++ g f) (unnamed g (length (makers r)) s none past r (names-fit r h))
        ∙ none f (λ e. absurd (omega (arith, e, below)))

no-number : (r : List Fact) (s i : ℕ) → accepted_count r s ≡ 0 → waits_in (sending r s) (suc i) ≡ true → ⊥
no-number r s i e h =
    let one = and_parts (is_sending (phase r s)) _ h in
    let two = and_parts (nat_le (suc i) (accepted_count r s)) _ one.1 in
    false≢true (sym (ap (nat_le (suc i)) e ∙ no-less i) ∙ two.0)

opened : (o : Option Text) (q : Text) → first_phase (option_or o (Some q)) ≡ out.Open
opened None q = refl
opened (Some x) q = refl

taken-open : (r : List Fact) (c : ℕ) (t : Text) (acks_to : Epr) (y : Behaviour) (d : Option ℕ)
    (l : Lapse) (offer : PeerOffer)
    → all_fit [] r ≡ true
    → phase (r ++ Granted c t acks_to y d l (Some offer) ∷ []) (length (makers r) + 1 + 1) ≡ out.Open
taken-open r c t acks_to y d l offer h =
    let f = Granted c t acks_to y d l (Some offer) in
    let s = length (makers r) + 1 + 1 in
    let there : ((length (makers r) + 2) == s) ≡ true = eq-eqb (length (makers r) + 2) s (omega arith) in
    let ident : ident_in (created_of (length (makers r)) f) s ≡ Some offer.ident =
    ap (λ (b : Bool). cond b (Some offer.ident) None) there in
    let none : marks r s ≡ [] =
    unnamed_at mark_of (length (makers r)) s (λ g. elsewhere_mark g s) (omega arith) r (names-fit r h) in
    ap₂ (λ (o : Option Text) (ps : List OutPhase). last_or (first_phase o) ps)
    (out_ident-more r f s ∙ ap (option_or (out_ident r s)) ident)
    (at_seq-more s mark_of r f ∙ ap (λ (ps : List OutPhase). ps ++ []) none)
    ∙ opened (out_ident r s) offer.ident

made-one : (r : List Fact) (f : Fact) (k : Key) (m : Maker) (j : ℕ) → all_fit [] r ≡ true → fits r f ≡ true
    → k.seq ≡ length (makers r) + 1 + j → slice_get (makers_of f) j ≡ Some m
    → waits_of (r ++ f ∷ []) k.seq k.number (Some m) ≡ true → has_key (begun_of r f) k ≡ true
made-one r (Creating ticket to via lapse offer) k m zero h fit at is w = by_number k.number refl
  where
    place : k.seq ≡ length (makers r) + 1
    place = omega (arith, at)

    outgoing : (o : Option OwnOffer) → slice_get (makers_of (Creating ticket to via lapse o)) 0 ≡ Some m
        → m ≡ Outgoing ticket to via lapse
    outgoing None e = cc
    outgoing (Some own) e = cc

    waits : waits_in (sending (r ++ Creating ticket to via lapse offer ∷ []) k.seq) k.number ≡ true
    waits = subst (λ z. waits_of (r ++ Creating ticket to via lapse offer ∷ []) k.seq k.number (Some z) ≡ true)
        (outgoing offer is) w

    by_number : (i : ℕ) → k.number ≡ i → has_key (begun_of r (Creating ticket to via lapse offer)) k ≡ true
    by_number zero e =
        or-first (same_key k (key (length (makers r) + 1) 0)) false
        (rw (eq-eqb k.seq (length (makers r) + 1) place, eq-eqb k.number 0 e) refl)
    by_number (suc i) e =
        absurd (no-number (r ++ Creating ticket to via lapse offer ∷ []) k.seq i
        (none-accepted r (Creating ticket to via lapse offer) k.seq h fit (omega (arith, place)))
        (subst (λ z. waits_in (sending (r ++ Creating ticket to via lapse offer ∷ []) k.seq) z ≡ true) e waits))
made-one r (Creating ticket to via lapse None) k m (suc j) h fit at is w = absurd (cc)
made-one r (Creating ticket to via lapse (Some own)) k m (suc zero) h fit at is w =
    let off : m ≡ Offered ticket own.counter to own.behaviour = cc in
    absurd (false≢true (subst (λ z. waits_of (r ++ Creating ticket to via lapse (Some own) ∷ []) k.seq k.number (Some z)
    ≡ true) off w))
made-one r (Creating ticket to via lapse (Some own)) k m (suc (suc j)) h fit at is w = absurd (cc)
made-one r (Granted c t acks_to y d l None) k m zero h fit at is w =
    let in_ : m ≡ Incoming c t acks_to y d l = cc in
    absurd (false≢true (subst (λ z. waits_of (r ++ Granted c t acks_to y d l None ∷ []) k.seq k.number (Some z) ≡ true)
    in_ w))
made-one r (Granted c t acks_to y d l None) k m (suc j) h fit at is w = absurd (cc)
made-one r (Granted c t acks_to y d l (Some offer)) k m zero h fit at is w =
    let in_ : m ≡ Incoming c t acks_to y d l = cc in
    absurd (false≢true (subst (λ z. waits_of (r ++ Granted c t acks_to y d l (Some offer) ∷ []) k.seq k.number (Some z)
    ≡ true) in_ w))
made-one r (Granted c t acks_to y d l (Some offer)) k m (suc zero) h fit at is w = absurd (by_number k.number waits)
  where
    f : Fact
    f = Granted c t acks_to y d l (Some offer)

    waits : waits_in (sending (r ++ Granted c t acks_to y d l (Some offer) ∷ []) k.seq) k.number ≡ true
    waits =
        let taken : m ≡ Taken t offer.ident offer.endpoint = cc in
        subst (λ z. waits_of (r ++ Granted c t acks_to y d l (Some offer) ∷ []) k.seq k.number (Some z) ≡ true) taken w

    by_number : (i : ℕ) → waits_in (sending (r ++ Granted c t acks_to y d l (Some offer) ∷ []) k.seq) i ≡ true → ⊥
    by_number zero e =
        let open_ : phase (r ++ Granted c t acks_to y d l (Some offer) ∷ []) k.seq ≡ out.Open =
        subst (λ n. phase (r ++ Granted c t acks_to y d l (Some offer) ∷ []) n ≡ out.Open) (sym at)
        (taken-open r c t acks_to y d l offer h) in
        false≢true (subst (λ p. is_requesting p ≡ true) open_ e)
    by_number (suc i) e =
        no-number (r ++ Granted c t acks_to y d l (Some offer) ∷ []) k.seq i
        (none-accepted r (Granted c t acks_to y d l (Some offer)) k.seq h fit (omega (arith, at))) e
made-one r (Granted c t acks_to y d l (Some offer)) k m (suc (suc j)) h fit at is w = absurd (cc)
made-one r _ k m j h fit at is w = absurd (cc)

-- ---- all sequences

-- nothing was accepted for a sequence in phase Creating
abbrev pub IsBare : List Fact → Type 0
IsBare r = (s : ℕ) → phase r s ≡ out.Creating → accepted_count r s ≡ 0

new-by : (r : List Fact) (f : Fact) (k : Key) → all_fit [] r ≡ true → fits r f ≡ true → IsBare r → (x y : Option Maker)
    → maker r k.seq ≡ x → maker (r ++ f ∷ []) k.seq ≡ y → waits_of (r ++ f ∷ []) k.seq k.number y ≡ true
    → (waits_of r k.seq k.number x ≡ true) ⊎ (has_key (begun_of r f) k ≡ true)
new-by r f k h fit bare None None e d w = absurd (false≢true w)
new-by r f k h fit bare None (Some m) e d w =
    let more : makers (r ++ f ∷ []) ≡ makers r ++ makers_of f = flat_map-more makers_of r f in
    let at = behind (makers r) (makers_of f) k.seq m e (ap (λ (v : List Maker). numbered v k.seq) (sym more) ∙ d) in
    inr (made-one r f k m at.0 h fit at.1 at.2 w)
new-by r f k h fit bare (Some m) y e d w =
    let more : makers (r ++ f ∷ []) ≡ makers r ++ makers_of f = flat_map-more makers_of r f in
    let same : y ≡ Some m =
    sym d ∙ ap (λ (v : List Maker). numbered v k.seq) more
    ∙ numbered-append (makers r) (makers_of f) k.seq m e in
    let le = numbered-within (makers r) k.seq m e in
    by_maker m (subst (λ o. waits_of (r ++ f ∷ []) k.seq k.number o ≡ true) same w) le
  where
    sent : k.seq ≤ length (makers r) → waits_in (sending (r ++ f ∷ []) k.seq) k.number ≡ true
        → (waits_in (sending r k.seq) k.number ≡ true) ⊎ (has_key (begun_of r f) k ≡ true)
    sent le v = elim (step r f k.seq k.number fit (bare k.seq)
        (subst (λ t. waits_in t k.number ≡ true) (sending-more r f k.seq le fit) v)) [
          | inl x ↦ inl x
          | inr x ↦ inr (begins-has r f k x)
        ]

    by_maker : (z : Maker) → waits_of (r ++ f ∷ []) k.seq k.number (Some z) ≡ true → k.seq ≤ length (makers r)
        → (waits_of r k.seq k.number (Some z) ≡ true) ⊎ (has_key (begun_of r f) k ≡ true)
    by_maker (Outgoing t to v l) x le = sent le x
    by_maker (Taken t q p) x le = sent le x
    by_maker (Offered t c to y) x le = absurd (false≢true x)
    by_maker (Incoming c t p y d l) x le = absurd (false≢true x)

-- a key that waits after one more record waited before it, or begins with it
pub one-begins : (r : List Fact) (f : Fact) (k : Key) → all_fit [] r ≡ true → fits r f ≡ true → IsBare r
    → is_waiting (r ++ f ∷ []) k ≡ true → (is_waiting r k ≡ true) ⊎ (has_key (begun_of r f) k ≡ true)
one-begins r f k h fit bare w =
    new-by r f k h fit bare (maker r k.seq) (maker (r ++ f ∷ []) k.seq) refl refl w

-- ---- a record leaves the keys of other sequences

sends-of : Side → Sending → Sending
sends-of (Sends t) other = t
sends-of (Receives t) other = other

sending-elsewhere : (s : ℕ) (t : Sending) (f : Fact) → names f ≢ s → sending_after s t f ≡ t
unfolding sends-of
sending-elsewhere s t f ne =
    ap (λ (x : Told). sends-of x.side t) (after-elsewhere s (record { ticket = None; side = Sends t }) f ne)

stays-by : (r : List Fact) (f : Fact) (k : Key) → fits r f ≡ true → names f ≢ k.seq → (x : Option Maker)
    → maker r k.seq ≡ x → waits_of r k.seq k.number x ≡ true → is_waiting (r ++ f ∷ []) k ≡ true
stays-by r f k fit ne None e w = absurd (false≢true w)
stays-by r f k fit ne (Some m) e w =
    let more : makers (r ++ f ∷ []) ≡ makers r ++ makers_of f = flat_map-more makers_of r f in
    let there : maker (r ++ f ∷ []) k.seq ≡ Some m =
    ap (λ (v : List Maker). numbered v k.seq) more ∙ numbered-append (makers r) (makers_of f) k.seq m e in
    let le = numbered-within (makers r) k.seq m e in
    let same : sending (r ++ f ∷ []) k.seq ≡ sending r k.seq =
    sending-more r f k.seq le fit ∙ sending-elsewhere k.seq (sending r k.seq) f ne in
    ap (waits_of (r ++ f ∷ []) k.seq k.number) there ∙ by_maker m same w
  where
    by_maker : (z : Maker) → sending (r ++ f ∷ []) k.seq ≡ sending r k.seq → waits_of r k.seq k.number (Some z) ≡ true
        → waits_of (r ++ f ∷ []) k.seq k.number (Some z) ≡ true
    by_maker (Outgoing t to v l) same x = ap (λ (t : Sending). waits_in t k.number) same ∙ x
    by_maker (Taken t q p) same x = ap (λ (t : Sending). waits_in t k.number) same ∙ x
    by_maker (Offered t c to y) same x = x
    by_maker (Incoming c t p y d l) same x = x

pub one-stays : (r : List Fact) (f : Fact) (k : Key) → fits r f ≡ true → names f ≢ k.seq → is_waiting r k ≡ true
    → is_waiting (r ++ f ∷ []) k ≡ true
one-stays r f k fit ne w = stays-by r f k fit ne (maker r k.seq) refl w

pub all-stay : (r delta : List Fact) (k : Key) → all_fit r delta ≡ true
    → AllByRecursion (λ (f : Fact). names f ≢ k.seq) delta → is_waiting r k ≡ true → is_waiting (r ++ delta) k ≡ true
all-stay r [] k fit ne w = subst (λ z. is_waiting z k ≡ true) (sym (append-nil r)) w
all-stay r (f ∷ delta) k fit ne w =
    let parts = and_parts (fits r f) (all_fit (r ++ f ∷ []) delta) fit in
    subst (λ z. is_waiting z k ≡ true) (append_assoc r (f ∷ []) delta)
    (all-stay (r ++ f ∷ []) delta k parts.1 ne.1 (one-stays r f k parts.0 ne.0 w))

-- ---- what begins, waits

or-none : (x : Bool) → (x || false) ≡ true → x ≡ true
or-none true h = refl
or-none false h = h

outgoing-by : (r : List Fact) (f : Fact) (s i : ℕ) → fits r f ≡ true → (x : Option Maker) → maker r s ≡ x
    → is_outgoing_side x ≡ true → waits_in (sending_after s (sending r s) f) i ≡ true
    → is_waiting (r ++ f ∷ []) (key s i) ≡ true
outgoing-by r f s i fit None e side w = absurd (false≢true side)
outgoing-by r f s i fit (Some m) e side w =
    let more : makers (r ++ f ∷ []) ≡ makers r ++ makers_of f = flat_map-more makers_of r f in
    let there : maker (r ++ f ∷ []) s ≡ Some m =
    ap (λ (v : List Maker). numbered v s) more ∙ numbered-append (makers r) (makers_of f) s m e in
    let le = numbered-within (makers r) s m e in
    let now : waits_in (sending (r ++ f ∷ []) s) i ≡ true =
    ap (λ (t : Sending). waits_in t i) (sending-more r f s le fit) ∙ w in
    ap (waits_of (r ++ f ∷ []) s i) there ∙ by_maker m side now
  where
    by_maker : (z : Maker) → is_outgoing_side (Some z) ≡ true → waits_in (sending (r ++ f ∷ []) s) i ≡ true
        → waits_of (r ++ f ∷ []) s i (Some z) ≡ true
    by_maker (Outgoing t to v l) d x = x
    by_maker (Taken t q p) d x = x
    by_maker (Offered t c to y) d x = absurd (false≢true d)
    by_maker (Incoming c t p y d l) e x = absurd (false≢true e)

outgoing-waits : (r : List Fact) (f : Fact) (s i : ℕ) → fits r f ≡ true → is_outgoing_side (maker r s) ≡ true
    → waits_in (sending_after s (sending r s) f) i ≡ true → is_waiting (r ++ f ∷ []) (key s i) ≡ true
outgoing-waits r f s i fit side w = outgoing-by r f s i fit (maker r s) refl side w

open-sends : (p : OutPhase) (seq : ℕ) (payload : List ℕ) → follows p (Accepted seq payload) ≡ true → is_sending p ≡ true
open-sends out.Open seq payload e = refl
open-sends _ seq payload e = absurd (false≢true e)

accepted-waits : (r : List Fact) (seq : ℕ) (p : List ℕ) → AreWithin r → is_sending (phase r seq) ≡ true
    → waits_in (sending_after seq (sending r seq) (Accepted seq p)) (accepted_count r seq + 1) ≡ true
accepted-waits r seq p within goes =
    let d = dropped r seq in
    let a = accepted r seq in
    let n = d + length a in
    let one : suc n ≡ n + 1 = omega arith in
    let same : (seq == seq) ≡ true = eq-eqb seq seq refl in
    subst (λ i. waits_in (known (phase r seq) d (a ++ cond (seq == seq) (p ∷ []) []) (sending r seq).acked) i ≡ true)
    one
    (subst (λ b. waits_in (known (phase r seq) d (a ++ cond b (p ∷ []) []) (sending r seq).acked) (suc n) ≡ true)
    (sym same)
    (rw (goes, enough, absent) refl))
  where
    enough : nat_le (suc (accepted_count r seq)) (dropped r seq + length (accepted r seq ++ p ∷ [])) ≡ true
    enough =
        let long : length (accepted r seq ++ p ∷ []) ≡ length (accepted r seq) + 1 =
        length-append (accepted r seq) (p ∷ []) in
        grind (arith, nat_tests, long)

    absent : in_ranges (sending r seq).acked (suc (accepted_count r seq)) ≡ false
    absent = elim (in_ranges (sending r seq).acked (suc (accepted_count r seq))) as
        (λ b. in_ranges (sending r seq).acked (suc (accepted_count r seq)) ≡ b → b ≡ false) [
          | true ↦ λ e. let low = within seq (suc (accepted_count r seq)) e in absurd (omega arith)
          | false ↦ λ e. refl
        ] refl

asked-waits : (r : List Fact) (seq : ℕ) (q : OutPhase) → is_requesting q ≡ true
    → waits_in (known (last_or (phase r seq) (at_seq seq ((seq, q) ∷ [])))
    (dropped r seq) (accepted r seq ++ []) (sending r seq).acked) 0
    ≡ true
asked-waits r seq q h =
    let same : (seq == seq) ≡ true = eq-eqb seq seq refl in
    ap (λ (b : Bool). is_requesting (last_or (phase r seq) (cond b (q ∷ []) []))) same ∙ h

creating-waits : (r : List Fact) (ticket : ℕ) (to : Text) (via : Via) (lapse : Lapse) (offer : Option OwnOffer)
    → all_fit [] r ≡ true
    → is_waiting (r ++ Creating ticket to via lapse offer ∷ []) (key (length (makers r) + 1) 0) ≡ true
creating-waits r ticket to via lapse offer h =
    let f = Creating ticket to via lapse offer in
    let s = length (makers r) + 1 in
    let none : marks r s ≡ [] =
    unnamed_at mark_of (length (makers r)) s (λ g. elsewhere_mark g s) (omega arith) r (names-fit r h) in
    let bare : out_ident r s ≡ None =
    unnamed_ident (length (makers r)) s 0 r (names-fit r h) (omega arith) (omega arith) in
    let ident : out_ident (r ++ f ∷ []) s ≡ None =
    out_ident-more r f s ∙ ap (λ (o : Option Text). option_or o None) bare in
    let mark : marks (r ++ f ∷ []) s ≡ [] =
    at_seq-more s mark_of r f ∙ ap (λ (ps : List OutPhase). ps ++ []) none in
    let creating : phase (r ++ f ∷ []) s ≡ out.Creating =
    ap₂ (λ (o : Option Text) (ps : List OutPhase). last_or (first_phase o) ps) ident mark in
    let there : maker (r ++ f ∷ []) s ≡ Some (Outgoing ticket to via lapse) =
    ap (λ (v : List Maker). numbered v s) (flat_map-more makers_of r f) ∙ first-made offer in
    ap (waits_of (r ++ f ∷ []) s 0) there ∙ ap is_requesting creating
  where
    first-made : (o : Option OwnOffer)
        → numbered (makers r ++ makers_of (Creating ticket to via lapse o)) (length (makers r) + 1)
        ≡ Some (Outgoing ticket to via lapse)
    first-made None = numbered-last (makers r) (Outgoing ticket to via lapse)
    first-made (Some own) =
        ap (λ (v : List Maker). numbered v (length (makers r) + 1))
        (sym (append_assoc (makers r) (Outgoing ticket to via lapse ∷ [])
        (Offered ticket own.counter to own.behaviour ∷ [])))
        ∙ numbered-append (makers r ++ Outgoing ticket to via lapse ∷ [])
        (Offered ticket own.counter to own.behaviour ∷ []) (length (makers r) + 1) (Outgoing ticket to via lapse)
        (numbered-last (makers r) (Outgoing ticket to via lapse))

-- the key that a record begins waits by the records then
pub begun-waits : (r : List Fact) (f : Fact) (k : Key) → all_fit [] r ≡ true → fits r f ≡ true → AreWithin r
    → has_key (begun_of r f) k ≡ true → is_waiting (r ++ f ∷ []) k ≡ true
begun-waits r (Creating ticket to via lapse offer) k h fit within b =
    let is = same_key-is k (key (length (makers r) + 1) 0) (or-none _ b) in
    subst (λ z. is_waiting (r ++ Creating ticket to via lapse offer ∷ []) z ≡ true) (sym is)
    (creating-waits r ticket to via lapse offer h)
begun-waits r (Accepted seq p) k h fit within b =
    let is = same_key-is k (key seq (accepted_count r seq + 1)) (or-none _ b) in
    let there : follows_at r seq (Accepted seq p) ≡ true = (and_parts (follows_at r seq (Accepted seq p)) _ fit).0 in
    let two = and_parts (is_outgoing_side (maker r seq)) (follows (phase r seq) (Accepted seq p)) there in
    subst (λ z. is_waiting (r ++ Accepted seq p ∷ []) z ≡ true) (sym is)
    (outgoing-waits r (Accepted seq p) seq (accepted_count r seq + 1) fit two.0
    (accepted-waits r seq p within (open-sends (phase r seq) seq p two.1)))
begun-waits r (Closing seq ticket) k h fit within b =
    let is = same_key-is k (key seq 0) (or-none _ b) in
    let there : follows_at r seq (Closing seq ticket) ≡ true =
    (and_parts _ (follows_at r seq (Closing seq ticket)) fit).1 in
    let two = and_parts (is_outgoing_side (maker r seq)) (follows (phase r seq) (Closing seq ticket)) there in
    subst (λ z. is_waiting (r ++ Closing seq ticket ∷ []) z ≡ true) (sym is)
    (outgoing-waits r (Closing seq ticket) seq 0 fit two.0 (asked-waits r seq out.Closing refl))
begun-waits r (Ending seq ticket) k h fit within b =
    let is = same_key-is k (key seq 0) (or-none _ b) in
    let there : follows_at r seq (Ending seq ticket) ≡ true =
    (and_parts _ (follows_at r seq (Ending seq ticket)) fit).1 in
    let two = and_parts (is_outgoing_side (maker r seq)) (follows (phase r seq) (Ending seq ticket)) there in
    subst (λ z. is_waiting (r ++ Ending seq ticket ∷ []) z ≡ true) (sym is)
    (outgoing-waits r (Ending seq ticket) seq 0 fit two.0 (asked-waits r seq out.Ending refl))
begun-waits r _ k h fit within b = absurd (false≢true b)
