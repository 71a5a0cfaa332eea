-- What was released and consumed stays, whatever records come then.
use Rattle.std.proofs.Common.{◌≡◌, ◌⊎◌, ℕ, zero, suc, max, ◌+◌, ◌<◌, ◌≤◌, ◌==◌, not, nat_lt, nat_le, cond, Bool}
use Rattle.std.proofs.Common.{true, false, List, [], ◌∷◌, ◌++◌, refl, sym, ap, ◌∙◌, arith, subst, inl, inr, append-nil}
use Rattle.std.proofs.Common.{append_assoc}
use Rattle.std.specs.Prelude.{Some, take}
use Rattle.std.specs.List.{AllByRecursion, flat_map}
use Rattle.std.proofs.lemmas.Bool.{and_parts, eq-eqb, eqb-true, leb-true, true≢false}
use Rattle.std.proofs.lemmas.Bool.Decides.{nat_tests}
use Rattle.std.proofs.lemmas.List.Concat.{flat_map-append}
use Rattle.rm_base.specs.Message.{max_number}
use Rattle.rm_base.specs.Numbered.{numbered}
use Rattle.rm_base.specs.NumberSet.{greatest_of, has_number}
use Rattle.rm_base.specs.declared.message.Behaviour.{Behaviour}
use Rattle.rm_base.specs.declared.message.Behaviour.TheVariants.{NoDiscard, EntireSequence, FollowingFirstGap}
use Rattle.rm_base.specs.declared.message.Cause.TheVariants.{Peer}
use Rattle.rm_base.specs.declared.message.Payload.{Payload}
use Rattle.record_batch.specs.Fact.{Fact, Received, Closed, Ended}
use Rattle.rm_sides.specs.Destination.Incoming.{inbox_of}
use Rattle.rm_sides.specs.Destination.Messages.{contents_of, is_empty, sorted_onto, with_message, without_gap}
use Rattle.record_batch.specs.Sequences.Words.{at_seq}
use Rattle.record_batch.specs.Sequences.Makers.{Maker, makers, makers_of, maker}
use Rattle.record_batch.specs.Sequences.Destinations.{behaviour, behaviour_of, close_of, closes, cursor, cursor_of}
use Rattle.record_batch.specs.Sequences.Destinations.{held}
use Rattle.record_batch.specs.Sequences.Destinations.{is_stopped, received, received_of, released, told, told_of}
use Rattle.record_batch.specs.Sequences.Fits.{fits, all_fit, is_incoming_side}
use Rattle.record_batch.specs.Sequences.GatherLemmas.{at_seq-more, flat_map-more, greatest_of-append}
use Rattle.rm_protocol.specs.Consumed.{GoesOn}
use Rattle.rm_protocol.specs.Sound.{Agree, Allows, IfWith, IsSourced, Justified, Keeps}
use Rattle.rm_protocol.specs.Word.{IsPrefixOf, consumed}
use Rattle.rm_protocol.proofs.Adds.{Agree-add}
use Rattle.rm_protocol.proofs.HeadlineLemmas.{nothing_in}
use Rattle.rm_protocol.proofs.Kept.{Keeps-add}
use Rattle.rm_protocol.proofs.ListLemmas.{at_seq-append, numbered-append}
use Rattle.rm_protocol.proofs.NewLemmas.{sorted-push}

prefix-then : {A : Type 0} (xs ys zs : List A) → IsPrefixOf xs ys → IsPrefixOf ys zs → IsPrefixOf xs zs
prefix-then xs ys zs h k =
    (h.0 ++ k.0, k.1 ∙ ap (λ z. z ++ k.0) h.1 ∙ append_assoc xs h.0 k.0)

prefix-self : {A : Type 0} (xs : List A) → IsPrefixOf xs xs
prefix-self xs = ([], sym (append-nil xs))

prefix-take : {A : Type 0} (c d : ℕ) (xs ys : List A) → c ≤ d → IsPrefixOf xs ys → IsPrefixOf (take c xs) (take d ys)
prefix-take zero d xs ys le h = (take d ys, refl)
prefix-take (suc c) zero xs ys le h = absurd (omega (arith, le))
prefix-take (suc c) (suc d) [] ys le h = (take (suc d) ys, refl)
prefix-take (suc c) (suc d) (x ∷ xs) ys le h =
    let rest = prefix-take c d xs (xs ++ h.0) (omega (arith, le)) (h.0, refl) in
    (rest.0, ap (take (suc d)) h.1 ∙ ap (λ zs. x ∷ zs) rest.1)

-- ---- what is released

-- a message more closes no gap before its number
gap-prefix : {A : Type 0} (k n : ℕ) (p : A) (ms : List (ℕ × A)) → k < n
    → IsPrefixOf (without_gap k ms) (without_gap k (with_message ms n p))
gap-prefix k n p [] lt = (without_gap k ((n, p) ∷ []), refl)
gap-prefix k n p (m ∷ ms) lt =
    by_tests (nat_lt n m.0) (n == m.0) (m.0 == k + 1) refl refl refl (λ past. gap-prefix m.0 n p ms past)
  where
    by_tests : (a b c : Bool) → nat_lt n m.0 ≡ a → (n == m.0) ≡ b → (m.0 == k + 1) ≡ c
        → (m.0 < n → IsPrefixOf (without_gap m.0 ms) (without_gap m.0 (with_message ms n p)))
        → IsPrefixOf (cond c (m.1 ∷ without_gap m.0 ms) [])
        (without_gap k (cond a ((n, p) ∷ m ∷ ms) (cond b (m ∷ ms) (m ∷ with_message ms n p))))
    by_tests a b false e f g more = (
      without_gap k (cond a ((n, p) ∷ m ∷ ms) (cond b (m ∷ ms)
          (m ∷ with_message ms n p))),
      refl,
    )
    by_tests true b true e f g more = absurd (grind (arith, nat_tests))
    by_tests false true true e f g more =
        ([], ap (λ b. cond b (m.1 ∷ without_gap m.0 ms) []) g ∙ sym (append-nil (m.1 ∷ without_gap m.0 ms)))
    by_tests false false true e f g more =
        let past : m.0 < n = grind (arith, nat_tests) in
        let rest = more past in (
          rest.0,
          ap (λ b. cond b (m.1 ∷ without_gap m.0 (with_message ms n p)) []) g ∙ ap (λ zs. m.1 ∷ zs) rest.1,
        )

-- of a sequence of which nothing was told yet, a message more
inbox-received : (y : Behaviour) (came : List (ℕ × Payload)) (n : ℕ) (p : Payload) → 0 < n
    → IsPrefixOf (inbox_of y [] came) (inbox_of y [] (came ++ (n, p) ∷ []))
inbox-received FollowingFirstGap came n p lt =
    subst (λ ms. IsPrefixOf (without_gap 0 (sorted_onto [] came)) (without_gap 0 ms)) (sym (sorted-push [] came n p))
    (gap-prefix 0 n p (sorted_onto [] came) lt)
inbox-received NoDiscard came n p lt = (p ∷ [], pushed came)
  where
    pushed : (ms : List (ℕ × Payload)) → contents_of (ms ++ (n, p) ∷ []) ≡ contents_of ms ++ p ∷ []
    pushed [] = refl
    pushed (m ∷ ms) = ap (λ xs. m.1 ∷ xs) (pushed ms)
inbox-received EntireSequence came n p lt = ([], refl)

-- more is told: the first counts
inbox-told : (y : Behaviour) (ns more : List ℕ) (ms : List (ℕ × Payload))
    → IsPrefixOf (inbox_of y ns ms) (inbox_of y (ns ++ more) ms)
inbox-told FollowingFirstGap ns more ms = prefix-self (without_gap 0 (sorted_onto [] ms))
inbox-told NoDiscard ns more ms = prefix-self (contents_of ms)
inbox-told EntireSequence [] more ms = (inbox_of EntireSequence more ms, refl)
inbox-told EntireSequence (n ∷ ns) more ms = prefix-self (inbox_of EntireSequence (n ∷ ns) ms)

-- ---- one record more

no_front : {A : Type 0} (xs ys : List A) → xs ++ ys ≡ [] → (xs ≡ []) × (ys ≡ [])
no_front [] ys e = (refl, e)
no_front (x ∷ xs) ys e = absurd (cc)

-- where no record closed or ended a sequence, nothing was told
told-one : (t : ℕ) (f : Fact) → at_seq t (close_of f) ≡ [] → at_seq t (told_of f) ≡ []
told-one t (Closed s Peer n) e = elim (s == t) as (λ b. cond b (false ∷ []) [] ≡ [] → cond b (n ∷ []) [] ≡ []) [
  | true ↦ λ k. absurd (cc)
  | false ↦ λ k. refl
] e
told-one t (Ended s Peer n) e = elim (s == t) as (λ b. cond b (true ∷ []) [] ≡ [] → cond b (n ∷ []) [] ≡ []) [
  | true ↦ λ k. absurd (cc)
  | false ↦ λ k. refl
] e
told-one t _ e = refl

told-none : (t : ℕ) (l : List Fact) → closes l t ≡ [] → told l t ≡ []
told-none t [] e = refl
told-none t (f ∷ l) e =
    let parts = no_front (at_seq t (close_of f)) (closes l t)
    (sym (at_seq-append t (close_of f) (flat_map close_of l)) ∙ e) in
    at_seq-append t (told_of f) (flat_map told_of l)
    ∙ ap (λ xs. xs ++ told l t) (told-one t f parts.0) ∙ told-none t l parts.1

-- a sequence on which something was received was made
received-made : (a b l : List Fact) (t : ℕ) → AllByRecursion (Justified a b) l
    → (received l t ≡ []) ⊎ ((m : Maker) × (maker a t ≡ Some m))
received-made a b [] t h = inl refl
received-made a b (Received s i p ∷ l) t h = elim (s == t) as (λ x. (s == t) ≡ x
    → (cond x ((i, p) ∷ []) [] ++ received l t ≡ []) ⊎ ((m : Maker) × (maker a t ≡ Some m))) [
      | true ↦ λ e. let at = subst (λ z. IfWith a b z (IsSourced a b z i p.bytes)) (eqb-true s t e) h.0 in
          inr (at.maker_, at.there)
      | false ↦ λ e. received-made a b l t h.1
    ] refl
received-made a b (f ∷ l) t h = received-made a b l t h.1

empty-is : {A : Type 0} (xs : List A) → not (is_empty xs) ≡ false → xs ≡ []
empty-is [] e = refl
empty-is (x ∷ xs) e = absurd (true≢false e)

not-true : (x : Bool) → not x ≡ true → x ≡ false
not-true true e = absurd (true≢false (sym e))
not-true false e = refl

record IsOpen (r : List Fact) (s n : ℕ) : Type 0 where
  from : 0 < n
  closes_ : closes r s ≡ []

received-fits : (r : List Fact) (s n : ℕ) (p : Payload) → fits r (Received s n p) ≡ true → IsOpen r s n
received-fits r s n p fit =
    let one = and_parts (is_incoming_side (maker r s)) _ fit in
    let two = and_parts (nat_le 1 n) _ one.1 in
    let three = and_parts (nat_le n max_number) _ two.1 in
    let four = and_parts (not (has_number (held r s) n)) (not (is_stopped r s)) three.1 in
    record {
      from = leb-true 1 n two.0;
      closes_ = empty-is (closes r s) (not-true (is_stopped r s) four.1);
    }

-- what was released begins what is released after one more record
abbrev Releases : List Fact → ℕ → Fact → Type 0
Releases a t f = IsPrefixOf (released a t)
    (inbox_of (behaviour a t) (told (a ++ f ∷ []) t) (received (a ++ f ∷ []) t))

unmoved : (a : List Fact) (t : ℕ) (f : Fact) → received_of t f ≡ [] → Releases a t f
unmoved a t f none =
    let came : received (a ++ f ∷ []) t ≡ received a t =
    flat_map-more (received_of t) a f ∙ ap (λ ms. received a t ++ ms) none ∙ append-nil (received a t) in
    subst (λ ns. IsPrefixOf (released a t) (inbox_of (behaviour a t) ns (received (a ++ f ∷ []) t)))
    (sym (at_seq-more t told_of a f))
    (subst (λ ms. IsPrefixOf (released a t) (inbox_of (behaviour a t) (told a t ++ at_seq t (told_of f)) ms)) (sym came)
    (inbox-told (behaviour a t) (told a t) (at_seq t (told_of f)) (received a t)))

moved : (r a : List Fact) (t n : ℕ) (p : Payload) → Keeps r a → fits r (Received t n p) ≡ true
    → Releases a t (Received t n p)
moved r a t n p k fit =
    let f = Received t n p in
    let open_ = received-fits r t n p fit in
    let none : told a t ≡ [] = told-none t a (ap (at_seq t) (sym k.same.frame.closes_) ∙ open_.closes_) in
    let still : told (a ++ f ∷ []) t ≡ [] = at_seq-more t told_of a f ∙ ap (λ ns. ns ++ []) none in
    let came : received (a ++ f ∷ []) t ≡ received a t ++ (n, p) ∷ [] =
    flat_map-more (received_of t) a f ∙ ap (λ b. received a t ++ cond b ((n, p) ∷ []) []) (eq-eqb t t refl) in
    subst (λ ns. IsPrefixOf (inbox_of (behaviour a t) ns (received a t))
    (inbox_of (behaviour a t) (told (a ++ f ∷ []) t) (received (a ++ f ∷ []) t))) (sym none)
    (subst (λ ns. IsPrefixOf (inbox_of (behaviour a t) [] (received a t))
    (inbox_of (behaviour a t) ns (received (a ++ f ∷ []) t))) (sym still)
    (subst (λ ms. IsPrefixOf (inbox_of (behaviour a t) [] (received a t)) (inbox_of (behaviour a t) [] ms)) (sym came)
    (inbox-received (behaviour a t) (received a t) n p open_.from)))

by-kind : (r a : List Fact) (t : ℕ) (f : Fact) → Keeps r a → fits r f ≡ true → Releases a t f
by-kind r a t (Received s n p) k fit = elim (s == t) as (λ b. (s == t) ≡ b → Releases a t (Received s n p)) [
  | true ↦ λ e. let same : s ≡ t = eqb-true s t e in
      subst (λ z. Releases a t (Received z n p)) (sym same)
      (moved r a t n p k (subst (λ z. fits r (Received z n p) ≡ true) same fit))
  | false ↦ λ e. unmoved a t (Received s n p) (ap (λ b. cond b ((n, p) ∷ []) []) e)
] refl
by-kind r a t f k fit = unmoved a t f refl

released-add : (r a b : List Fact) (f : Fact) (t : ℕ) → Keeps r a → AllByRecursion (Justified a b) a
    → fits r f ≡ true → IsPrefixOf (released a t) (released (a ++ f ∷ []) t)
released-add r a b f t k just fit = elim (received-made a b a t just) [
  | inl none ↦
      let nothing : released a t ≡ [] =
      ap (λ ms. inbox_of (behaviour a t) (told a t) ms) none ∙ nothing_in (behaviour a t) (told a t) in
      (released (a ++ f ∷ []) t, ap (λ xs. xs ++ released (a ++ f ∷ []) t) (sym nothing))
  | inr made ↦
      let more : maker (a ++ f ∷ []) t ≡ maker a t =
      ap (λ ms. numbered ms t) (flat_map-more makers_of a f)
      ∙ numbered-append (makers a) (makers_of f) t made.0 made.1 ∙ sym made.1 in
      subst (λ y. IsPrefixOf (released a t)
      (inbox_of y (told (a ++ f ∷ []) t) (received (a ++ f ∷ []) t))) (sym (ap behaviour_of more))
      (by-kind r a t f k fit)
]

cursor-adds : (a delta : List Fact) (t : ℕ) → cursor a t ≤ cursor (a ++ delta) t
cursor-adds a delta t =
    let up : cursor (a ++ delta) t ≡ max (cursor a t) (greatest_of (flat_map (cursor_of t) delta)) =
    ap greatest_of (flat_map-append (cursor_of t) a delta)
    ∙ greatest_of-append (flat_map (cursor_of t) a) (flat_map (cursor_of t) delta) in
    omega (arith, up)

released-adds : (n m : ℕ) (r a b delta : List Fact) (t : ℕ) → Keeps r a → Agree n m a b → Allows a b delta
    → all_fit r delta ≡ true → IsPrefixOf (released a t) (released (a ++ delta) t)
released-adds n m r a b [] t k agree w fit =
    subst (λ z. IsPrefixOf (released a t) (released z t)) (sym (append-nil a)) (prefix-self (released a t))
released-adds n m r a b (f ∷ delta) t k agree w fit =
    let parts = and_parts (fits r f) (all_fit (r ++ f ∷ []) delta) fit in
    let one = released-add r a b f t k agree.justified parts.0 in
    let rest = released-adds n m (r ++ f ∷ []) (a ++ f ∷ []) b delta t (Keeps-add r a f w.0 k)
    (Agree-add n m a b f w.0 w.1 agree) w.2 parts.1 in
    subst (λ z. IsPrefixOf (released a t) (released z t)) (append_assoc a (f ∷ []) delta)
    (prefix-then (released a t) (released (a ++ f ∷ []) t) (released ((a ++ f ∷ []) ++ delta) t) one rest)

-- what was released and what was consumed stay with each record that may be added
pub goes-on-adds : (n m : ℕ) (r a b delta : List Fact) (t : ℕ) → Keeps r a → Agree n m a b → Allows a b delta
    → all_fit r delta ≡ true → GoesOn a (a ++ delta) t
goes-on-adds n m r a b delta t k agree w fit =
    let more = released-adds n m r a b delta t k agree w fit in
    record {
      released_ = more;
      consumed_ = prefix-take (cursor a t) (cursor (a ++ delta) t) (released a t) (released (a ++ delta) t)
          (cursor-adds a delta t) more;
    }

pub goes-on-self : (a : List Fact) (t : ℕ) → GoesOn a a t
goes-on-self a t = record { released_ = prefix-self (released a t); consumed_ = prefix-self (consumed a t) }

pub goes-on-then : (a b d : List Fact) (t : ℕ) → GoesOn a b t → GoesOn b d t → GoesOn a d t
goes-on-then a b d t one two = record {
  released_ = prefix-then (released a t) (released b t) (released d t) one.released_ two.released_;
  consumed_ = prefix-then (consumed a t) (consumed b t) (consumed d t) one.consumed_ two.consumed_;
}
