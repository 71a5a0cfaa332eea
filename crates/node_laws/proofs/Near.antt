-- How far behind its front a sequence has received, after one more record.
use Rattle.std.proofs.Common.{◌≡◌, ℕ, suc, ◌+◌, ◌-◌, ◌<◌, ◌≤◌, ◌==◌, ◌⊎◌, Bool, true, false, cond, List, []}
use Rattle.std.proofs.Common.{◌∷◌, ◌++◌, length, refl, sym, ap, subst, ◌∙◌, arith, inl, inr, append-nil, Option, None}
use Rattle.std.proofs.Common.{append_assoc}
use Prim.Native.Nat.{zero}
use Rattle.std.specs.Prelude.{◌||◌, nat_lt, nat_le, slice_get, Some}
use Rattle.std.proofs.lemmas.List.{map-append}
use Rattle.std.proofs.lemmas.Bool.{and_parts, eqb-true, leb-true}
use Rattle.std.proofs.lemmas.Bool.Decides.{nat_tests}
use Rattle.rm_base.specs.Limits.{window}
use Rattle.rm_base.specs.Numbered.{numbered}
use Rattle.rm_base.specs.NumberSet.{has_number}
use Rattle.rm_base.specs.declared.message.Payload.{Payload}
use Rattle.rm_sides.specs.declared.ranges.range.Range.{Range}
use Rattle.record_batch.specs.Fact.{Fact, Dropped, Purged, Received}
use Rattle.rm_sides.specs.Destination.Messages.{gone_items, items_of, numbers_in, numbers_of, sorted_onto, there_items}
use Rattle.rm_sides.specs.Destination.Messages.{with_message, without_gap}
use Rattle.record_batch.specs.Sequences.Makers.{Maker, makers, makers_of, maker}
use Rattle.record_batch.specs.Sequences.Destinations.{front, held, items, messages, purged, purged_of, received}
use Rattle.record_batch.specs.Sequences.Destinations.{received_of}
use Rattle.record_batch.specs.Sequences.Sources.{dropped_of}
use Rattle.record_batch.specs.Sequences.Fits.{fits, all_fit, is_incoming_side}
use Rattle.record_batch.specs.Sequences.GatherLemmas.{flat_map-more}
use Rattle.record_batch.specs.Sequences.NameLemmas.{names-fit, elsewhere_purged, elsewhere_received, unnamed}

-- ---- sequences that are there

slice_get-front : {A : Type 0} (xs ys : List A) (k : ℕ) → k < length xs → slice_get (xs ++ ys) k ≡ slice_get xs k
slice_get-front [] ys k h = absurd (omega (arith, h))
slice_get-front (x ∷ xs) ys zero h = refl
slice_get-front (x ∷ xs) ys (suc k) h = slice_get-front xs ys k (omega (arith, h))

numbered-front : {A : Type 0} (xs ys : List A) (n : ℕ) → n ≤ length xs → numbered (xs ++ ys) n ≡ numbered xs n
numbered-front xs ys n h =
    elim (n == 0) as (λ b. (n == 0) ≡ b
    → cond b None (slice_get (xs ++ ys) (n - 1)) ≡ cond b None (slice_get xs (n - 1))) [
      | true ↦ λ e. refl
      | false ↦ λ e. slice_get-front xs ys (n - 1) (grind (arith, nat_tests))
    ] refl

le-or-past : (a b : ℕ) → (a ≤ b) ⊎ (b < a)
le-or-past a b =
    elim (nat_le a b) as (λ x. nat_le a b ≡ x → (a ≤ b) ⊎ (b < a)) [
      | true ↦ λ e. inl (leb-true a b e)
      | false ↦ λ e. inr (grind (arith, nat_tests))
    ] refl

-- a sequence was made so before one more record, or is made by it
pub side-before : (p : Option Maker → Bool) (r : List Fact) (f : Fact) (s : ℕ) → p (maker (r ++ f ∷ []) s) ≡ true
    → (p (maker r s) ≡ true) ⊎ (length (makers r) < s)
side-before p r f s h =
    elim (le-or-past s (length (makers r))) [
      | inl within ↦
          let same : maker (r ++ f ∷ []) s ≡ maker r s =
          ap (λ ms. numbered ms s) (flat_map-more makers_of r f)
          ∙ numbered-front (makers r) (makers_of f) s within in
          inl (subst (λ m. p m ≡ true) same h)
      | inr past ↦ inr past
    ]

-- nothing was received for a sequence that isn't there yet
none-received : (r : List Fact) (s : ℕ) → all_fit [] r ≡ true → length (makers r) < s → items r s ≡ []
none-received r s h past =
    ap (λ ps. items_of ps (received r s))
    (unnamed (purged_of s) (length (makers r)) s (λ f. elsewhere_purged f s) past r (names-fit r h))
    ∙ ap (items_of [])
    (unnamed (received_of s) (length (makers r)) s (λ f. elsewhere_received f s) past r (names-fit r h))

-- ---- the front

-- one more message leaves no gap that wasn't there
gap-more : {A : Type 0} (n k : ℕ) (x : A) (ms : List (ℕ × A)) → n < k
    → length (without_gap n ms) ≤ length (without_gap n (with_message ms k x))
gap-more n k x [] h = omega arith
gap-more n k x (m ∷ ms) h =
    by_tests (nat_lt k m.0) (k == m.0) (m.0 == n + 1) refl refl refl (λ past. gap-more m.0 k x ms past)
  where
    by_tests : (a b c : Bool) → nat_lt k m.0 ≡ a → (k == m.0) ≡ b → (m.0 == n + 1) ≡ c
        → (m.0 < k → length (without_gap m.0 ms) ≤ length (without_gap m.0 (with_message ms k x)))
        → length (cond c (m.1 ∷ without_gap m.0 ms) [])
        ≤ length (without_gap n (cond a ((k, x) ∷ m ∷ ms) (cond b (m ∷ ms) (m ∷ with_message ms k x))))
    by_tests a b false e f g more = omega arith
    by_tests true b true e f g more = absurd (grind (arith, nat_tests))
    by_tests false true true e f g more = rw g (omega arith)
    by_tests false false true e f g more =
        let past : m.0 < k = grind (arith, nat_tests) in
        let longer = more past in
        rw g (omega (arith, longer))

sorted_onto-push : {A : Type 0} (sorted came : List (ℕ × A)) (m : ℕ × A)
    → sorted_onto sorted (came ++ m ∷ []) ≡ with_message (sorted_onto sorted came) m.0 m.1
sorted_onto-push sorted [] m = refl
sorted_onto-push sorted (x ∷ came) m = sorted_onto-push (with_message sorted x.0 x.1) came m

-- what a record takes for a sequence: one message at most
record IsTaken (r : List Fact) (f : Fact) (s : ℕ) : Type 0 where
  number : ℕ
  payload : Payload
  is : f ≡ Received s number payload
  same : received (r ++ f ∷ []) s ≡ received r s ++ (number, payload) ∷ []

-- messages go behind all others
items-push : (ps : List Range) (ms : List (ℕ × Payload)) (n : ℕ) (p : Payload)
    → items_of ps (ms ++ (n, p) ∷ []) ≡ items_of ps ms ++ (n, Some p) ∷ []
items-push ps ms n p =
    ap (λ xs. gone_items (numbers_in ps) ++ xs) (map-append (λ (m : ℕ × Payload). (m.0, Some m.1)) ms ((n, p) ∷ []))
    ∙ sym (append_assoc (gone_items (numbers_in ps)) (there_items ms) ((n, Some p) ∷ []))

taken : (r : List Fact) (f : Fact) (s : ℕ) → (received (r ++ f ∷ []) s ≡ received r s) ⊎ IsTaken r f s
taken r (Received seq n p) s =
    elim (seq == s) as (λ b. (seq == s) ≡ b → received (r ++ Received seq n p ∷ []) s ≡ received r s
    ++ cond b ((n, p) ∷ []) [] → (received (r ++ Received seq n p ∷ []) s ≡ received r s)
    ⊎ IsTaken r (Received seq n p) s) [
      | true ↦ λ e h. inr (record {
        number = n;
        payload = p;
        is = ap (λ t. Received t n p) (eqb-true seq s e);
        same = h;
      })
      | false ↦ λ e h. inl (h ∙ append-nil (received r s))
    ] refl (flat_map-more (received_of s) r (Received seq n p))
taken r f s = inl (flat_map-more (received_of s) r f ∙ append-nil (received r s))

front-at : (r new : List Fact) (s k : ℕ) (p : Payload) → 0 < k → items new s ≡ items r s ++ (k, Some p) ∷ []
    → front r s ≤ front new s
front-at r new s k p some e =
    let sorted : messages new s ≡ with_message (messages r s) k (Some p) =
    ap (sorted_onto []) e ∙ sorted_onto-push [] (items r s) (k, Some p) in
    let same : front new s ≡ length (without_gap 0 (with_message (messages r s) k (Some p))) =
    ap (λ ms. length (without_gap 0 ms)) sorted in
    omega (arith, same, gap-more 0 k (Some p) (messages r s) some)

has_number-append : (xs ys : List ℕ) (n : ℕ) → has_number (xs ++ ys) n ≡ (has_number xs n || has_number ys n)
has_number-append [] ys n = refl
has_number-append (x ∷ xs) ys n =
    let rest = has_number-append xs ys n in
    elim (x == n) as (λ b. (b || has_number (xs ++ ys) n) ≡ ((b || has_number xs n) || has_number ys n)) [
      | true ↦ refl
      | false ↦ rest
    ]

numbers-push : {A : Type 0} (ms : List (ℕ × A)) (m : ℕ × A) → numbers_of (ms ++ m ∷ []) ≡ numbers_of ms ++ m.0 ∷ []
numbers-push [] m = refl
numbers-push (x ∷ ms) m = ap (λ ns. x.0 ∷ ns) (numbers-push ms m)

-- ---- all sequences

-- no number of an incoming sequence is far past its front
abbrev pub IsNear : List Fact → Type 0
IsNear r = (s n : ℕ) → is_incoming_side (maker r s) ≡ true → has_number (held r s) n ≡ true → n ≤ front r s + window

-- a record takes no number that is far past it, and is none that only a list has that is written anew
abbrev pub TakesNear : List Fact → Fact → Type 0
TakesNear r (Received seq n payload) = n ≤ front r seq + window
TakesNear r (Dropped seq upto) = ⊥
TakesNear r (Purged seq ranges) = ⊥
TakesNear r _ = Unit {0}

pub drops-none : (r : List Fact) (f : Fact) (s : ℕ) → TakesNear r f → dropped_of s f ≡ []
drops-none r (Dropped seq upto) s near = absurd near
drops-none r _ s near = refl

purges-none : (r : List Fact) (f : Fact) (s : ℕ) → TakesNear r f → purged_of s f ≡ []
purges-none r (Purged seq ranges) s near = absurd near
purges-none r _ s near = refl

pub near-more : (r : List Fact) (f : Fact) → all_fit [] r ≡ true → fits r f ≡ true → TakesNear r f → IsNear r
    → IsNear (r ++ f ∷ [])
near-more r f all fit near h s n side has = elim (taken r f s) [
  | inl same ↦ unchanged same
  | inr more ↦ changed more
]
  where
    before : (is_incoming_side (maker r s) ≡ true) ⊎ (length (makers r) < s)
    before = side-before is_incoming_side r f s side

    -- a number that was there
    old : has_number (held r s) n ≡ true → n ≤ front r s + window
    old is = elim before [
      | inl there ↦ h s n there is
      | inr past ↦
          let none : held r s ≡ [] = ap numbers_of (none-received r s all past) in
          let no : has_number (held r s) n ≡ false = ap (λ ns. has_number ns n) none in
          absurd (cc)
    ]

    gone : purged (r ++ f ∷ []) s ≡ purged r s
    gone = flat_map-more (purged_of s) r f ∙ ap (λ ps. purged r s ++ ps) (purges-none r f s near)
        ∙ append-nil (purged r s)

    unchanged : received (r ++ f ∷ []) s ≡ received r s → n ≤ front (r ++ f ∷ []) s + window
    unchanged same =
        let all_same : items (r ++ f ∷ []) s ≡ items r s =
        ap (λ ps. items_of ps (received (r ++ f ∷ []) s)) gone ∙ ap (items_of (purged r s)) same in
        let numbers : held (r ++ f ∷ []) s ≡ held r s = ap numbers_of all_same in
        let front_ : front (r ++ f ∷ []) s ≡ front r s =
        ap (λ ms. length (without_gap 0 (sorted_onto [] ms))) all_same in
        let is : has_number (held r s) n ≡ true = subst (λ ns. has_number ns n ≡ true) numbers has in
        omega (arith, front_, old is)

    changed : IsTaken r f s → n ≤ front (r ++ f ∷ []) s + window
    changed more =
        let close : more.number ≤ front r s + window = subst (TakesNear r) more.is near in
        let fitting : fits r (Received s more.number more.payload) ≡ true =
        subst (λ x. fits r x ≡ true) more.is fit in
        let parts = and_parts (is_incoming_side (maker r s)) _ fitting in
        let some : nat_le 1 more.number ≡ true = (and_parts (nat_le 1 more.number) _ parts.1).0 in
        let all_more : items (r ++ f ∷ []) s ≡ items r s ++ (more.number, Some more.payload) ∷ [] =
        ap (λ ps. items_of ps (received (r ++ f ∷ []) s)) gone ∙ ap (items_of (purged r s)) more.same
        ∙ items-push (purged r s) (received r s) more.number more.payload in
        let on : front r s ≤ front (r ++ f ∷ []) s =
        front-at r (r ++ f ∷ []) s more.number more.payload (leb-true 1 more.number some) all_more in
        let numbers : held (r ++ f ∷ []) s ≡ held r s ++ more.number ∷ [] =
        ap numbers_of all_more ∙ numbers-push (items r s) (more.number, Some more.payload) in
        let either : (has_number (held r s) n || has_number (more.number ∷ []) n) ≡ true =
        sym (has_number-append (held r s) (more.number ∷ []) n)
        ∙ ap (λ ns. has_number ns n) (sym numbers) ∙ has in
        by_test (has_number (held r s) n) (more.number == n) refl refl either on close
      where
        by_test : (x y : Bool) → has_number (held r s) n ≡ x → (more.number == n) ≡ y
            → (x || (y || false)) ≡ true → front r s ≤ front (r ++ f ∷ []) s → more.number ≤ front r s + window
            → n ≤ front (r ++ f ∷ []) s + window
        by_test true y e g either on close = omega (arith, old e, on)
        by_test false true e g either on close =
            let same : more.number ≡ n = eqb-true more.number n g in omega (arith, same, on, close)
        by_test false false e g either on close = absurd (cc)
