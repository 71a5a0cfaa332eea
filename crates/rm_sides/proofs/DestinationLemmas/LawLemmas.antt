-- What the laws of the front, the inbox and the discarded messages stand on.
use Rattle.std.proofs.Common.{◌≡◌, ℕ, zero, suc, ◌+◌, ◌-◌, ◌<◌, Bool, true, false, cond, ◌==◌, nat_lt, List, [], ◌∷◌}
use Rattle.std.proofs.Common.{◌++◌, length, take, drop, refl, sym, ap, ◌∙◌, arith, ◌⊎◌, inl, inr}
use Rattle.std.specs.Prelude.{Contains, Some, None, slice_get}
use Rattle.std.proofs.Math.Seq.{take-length}
use Rattle.std.proofs.lemmas.Bool.{eqb-true}
use Rattle.std.proofs.lemmas.Bool.Decides.{nat_tests}
use Rattle.std.proofs.lemmas.List.{length-map, take-append-drop}
use Rattle.rm_base.specs.declared.message.Behaviour.{Behaviour}
use Rattle.rm_base.specs.declared.message.Behaviour.TheVariants.{NoDiscard, EntireSequence, FollowingFirstGap}
use Rattle.rm_base.specs.NumberSet.{IsRising, has_number, front_after}
use Rattle.rm_base.specs.NumberSetLemmas.{Rises-with_number}
use Rattle.rm_base.specs.Numbered.{numbered}
use Rattle.rm_sides.specs.Destination.FrontLemmas.{front_after-has, front_after-next}
use Rattle.rm_sides.specs.Destination.Incoming.{Receiving, items, is_loose, is_stopped, is_whole_by, is_whole, inbox_of}
use Rattle.rm_sides.specs.Destination.Incoming.{inbox, discarded}
use Rattle.rm_sides.specs.Destination.Laws.{IsFront, InboxIsAPrefix, LooseReleasesAll}
use Rattle.rm_sides.specs.Destination.MessageLemmas.{numbers_of-with_message, has_number-by_number, length-without_gap}
use Rattle.rm_sides.specs.Destination.MessageLemmas.{without_gap-take}
use Rattle.rm_sides.specs.Destination.Messages.{Item, with_message, sorted_onto, by_number, without_gap, numbers_of}
use Rattle.rm_sides.specs.Destination.Messages.{contents_of, front_of}
use Rattle.rm_sides.proofs.DestinationLemmas.InboxLemmas.{discarded-loose, inbox-loose, inbox-take}

-- messages with numbers from 1 on rise once they are sorted
pub Rises-sorted : (sorted came : List (ℕ × Item)) → IsRising (numbers_of sorted)
    → has_number (numbers_of came) 0 ≡ false → IsRising (numbers_of (sorted_onto sorted came))
Rises-sorted sorted [] r h = r
Rises-sorted sorted (m ∷ came) r h =
    let from_one : 0 < m.0 = grind (arith, nat_tests) in
    let rest : has_number (numbers_of came) 0 ≡ false = grind (arith, nat_tests) in
    let one : IsRising (numbers_of (with_message sorted m.0 m.1))
    = rw (numbers_of-with_message sorted m.0 m.1) (Rises-with_number 0 m.0 (numbers_of sorted) r from_one) in
    Rises-sorted (with_message sorted m.0 m.1) came one rest

-- the front is reached, and no more
pub front_of-IsFront : (came : List (ℕ × Item)) → has_number (numbers_of came) 0 ≡ false
    → IsFront (numbers_of came) (front_of came)
front_of-IsFront came h =
    let xs = numbers_of (by_number came) in
    let f = front_of came in
    let rising : IsRising xs = Rises-sorted [] came tt h in
    let reached : 0 + f ≡ front_after 0 xs = length-without_gap 0 (by_number came) in
    let next : front_after 0 xs + 1 ≡ f + 1 = omega arith in
    record {
      all = λ n from to. sym (has_number-by_number came n) ∙ front_after-has 0 xs n from (omega arith);
      ends = sym (has_number-by_number came (f + 1)) ∙ (rw next at (front_after-next 0 xs rising));
    }

-- what is in a list is in a longer one
Contains-later : {A : Type 0} → (x : A) (xs : List A) (y : A) → Contains xs y → Contains (x ∷ xs) y
Contains-later x xs y there = (suc there.0, omega (arith, there.1), there.2)

-- what is in a list is its first or among the others
Contains-either : {A : Type 0} → (x : A) (xs : List A) (y : A) → Contains (x ∷ xs) y → (x ≡ y) ⊎ Contains xs y
Contains-either x xs y (zero, l, e) = inl e
Contains-either x xs y (suc k, l, e) = inr (k, omega arith, e)

-- a message that was put in is there, and nothing else is new
with_message-only : (ms : List (ℕ × Item)) (n : ℕ) (p : Item) (x : ℕ × Item)
    → Contains (with_message ms n p) x → Contains ms x ⊎ ((n, p) ≡ x)
with_message-only [] n p x h = elim (Contains-either (n, p) [] x h) [ inl e ↦ inr e | inr later ↦ inl later ]
with_message-only (m ∷ ms) n p x h =
    elim (nat_lt n m.0) as (λ b. Contains
    (cond b ((n, p) ∷ m ∷ ms) (cond (n == m.0) (m ∷ ms) (m ∷ with_message ms n p))) x
    → Contains (m ∷ ms) x ⊎ ((n, p) ≡ x)) [
      | true ↦ λ there. elim (Contains-either (n, p) (m ∷ ms) x there) [ inl e ↦ inr e | inr later ↦ inl later ]
      | false ↦ elim (n == m.0) as (λ b. Contains (cond b (m ∷ ms) (m ∷ with_message ms n p)) x
          → Contains (m ∷ ms) x ⊎ ((n, p) ≡ x)) [
            | true ↦ λ there. inl there
            | false ↦ λ there. elim (Contains-either m (with_message ms n p) x there) [
              | inl e ↦ inl (0, omega arith, e)
              | inr later ↦ elim (with_message-only ms n p x later) [
                | inl before ↦ inl (Contains-later m ms x before)
                | inr new ↦ inr new
              ]
            ]
          ]
    ] h

-- what is among the sorted messages came
sorted-came : (sorted came : List (ℕ × Item)) (x : ℕ × Item) → Contains (sorted_onto sorted came) x
    → Contains sorted x ⊎ Contains came x
sorted-came sorted [] x h = inl h
sorted-came sorted (m ∷ came) x h = elim (sorted-came (with_message sorted m.0 m.1) came x h) [
  | inl there ↦ elim (with_message-only sorted m.0 m.1 x there) [
    | inl before ↦ inl before
    | inr new ↦ inr (0, omega arith, new)
  ]
  | inr later ↦ inr (Contains-later m came x later)
]

-- behind n the k-th message without a gap has the number n + k + 1
without_gap-at : (n : ℕ) (ms : List (ℕ × Item)) (k : ℕ) (p : Item) → slice_get (without_gap n ms) k ≡ Some p
    → Contains ms (n + k + 1, p)
without_gap-at n [] k p e = absurd (cc)
without_gap-at n (m ∷ ms) zero p e =
    elim (m.0 == n + 1) as (λ b. (m.0 == n + 1) ≡ b
    → slice_get (cond b (m.1 ∷ without_gap m.0 ms) []) zero ≡ Some p → Contains (m ∷ ms) (n + zero + 1, p)) [
      | true ↦ λ t h.
          let number : m.0 ≡ n + zero + 1 = omega (arith, eqb-true m.0 (n + 1) t) in
          let payload : m.1 ≡ p = cc in
          let same : m ≡ (n + zero + 1, p) = rw (← number, ← payload) refl in
          (0, omega arith, same)
      | false ↦ λ t h. absurd (cc)
    ] refl e
without_gap-at n (m ∷ ms) (suc k) p e =
    elim (m.0 == n + 1) as (λ b. (m.0 == n + 1) ≡ b
    → slice_get (cond b (m.1 ∷ without_gap m.0 ms) []) (suc k) ≡ Some p → Contains (m ∷ ms) (n + suc k + 1, p)) [
      | true ↦ λ t h.
          let number : m.0 + k + 1 ≡ n + suc k + 1 = omega (arith, eqb-true m.0 (n + 1) t) in
          Contains-later m ms (n + suc k + 1, p) (rw number at (without_gap-at m.0 ms k p h))
      | false ↦ λ t h. absurd (cc)
    ] refl e

-- what stands at a place came with the number of that place
pub numbered-came : (came : List (ℕ × Item)) (i : ℕ) (p : Item)
    → numbered (without_gap 0 (by_number came)) i ≡ Some p → Contains came (i, p)
numbered-came came i p e =
    let ms = by_number came in
    elim (i == 0) as (λ b. (i == 0) ≡ b → cond b None (slice_get (without_gap 0 ms) (i - 1)) ≡ Some p
    → Contains came (i, p)) [
      | true ↦ λ t h. absurd (cc)
      | false ↦ λ t h.
          let place : 0 + (i - 1) + 1 ≡ i = grind (arith, nat_tests, t) in
          let there : Contains ms (i, p) = rw place at (without_gap-at 0 ms (i - 1) p h) in
          elim (sorted-came [] came (i, p) there) [
            | inl none ↦ absurd (omega (arith, none.1))
            | inr came_so ↦ came_so
          ]
    ] refl e

-- all messages of a whole sequence follow one another without a gap
without_gap-whole : (n : ℕ) (ms : List (ℕ × Item)) → is_whole n ms ≡ true → contents_of ms ≡ without_gap 0 ms
without_gap-whole n ms h =
    let count : length (contents_of ms) ≡ length ms = length-map ms (λ (m : ℕ × Item). m.1) in
    let all : length (without_gap 0 ms) ≡ length (contents_of ms) = grind (arith, nat_tests, h, count) in
    sym (without_gap-take 0 ms ∙ ap (λ k. take k (contents_of ms)) all ∙ take-length (contents_of ms))

-- by what the peer told first
without_gap-whole_by : (ns : List ℕ) (ms : List (ℕ × Item)) → is_whole_by ns ms ≡ true
    → contents_of ms ≡ without_gap 0 ms
without_gap-whole_by [] ms h = absurd (cc)
without_gap-whole_by (n ∷ ns) ms h = without_gap-whole n ms h

-- the inbox under each behaviour
inbox_of-prefix : (b : Behaviour) (ns : List ℕ) (ms : List (ℕ × Item)) → is_loose b ≡ false
    → (inbox_of b ns ms ≡ without_gap 0 (by_number ms)) ⊎ (inbox_of b ns ms ≡ [])
inbox_of-prefix NoDiscard ns ms ordered = absurd (cc)
inbox_of-prefix FollowingFirstGap ns ms ordered = inl refl
inbox_of-prefix EntireSequence ns ms ordered =
    elim (is_whole_by ns (by_number ms)) as (λ (t : Bool). is_whole_by ns (by_number ms) ≡ t
    → (cond t (contents_of (by_number ms)) [] ≡ without_gap 0 (by_number ms))
    ⊎ (cond t (contents_of (by_number ms)) [] ≡ [])) [
      | true ↦ λ h. inl (without_gap-whole_by ns (by_number ms) h)
      | false ↦ λ _. inr refl
    ] refl

-- under DiscardEntireSequence
inbox_of-entire : (b : Behaviour) (ns : List ℕ) (ms : List (ℕ × Item)) → b ≡ EntireSequence
    → (inbox_of b ns ms ≡ contents_of (by_number ms)) ⊎ (inbox_of b ns ms ≡ [])
inbox_of-entire NoDiscard ns ms e = absurd (cc)
inbox_of-entire FollowingFirstGap ns ms e = absurd (cc)
inbox_of-entire EntireSequence ns ms e =
    elim (is_whole_by ns (by_number ms)) as (λ (t : Bool).
    (cond t (contents_of (by_number ms)) [] ≡ contents_of (by_number ms))
    ⊎ (cond t (contents_of (by_number ms)) [] ≡ [])) [
      | true ↦ inl refl
      | false ↦ inr refl
    ]

-- the inbox of an ordered sequence is what came up to the first gap, or nothing
pub inbox-prefix : (f : Receiving) → is_loose f.behaviour ≡ false → InboxIsAPrefix f
inbox-prefix f ordered = record {
  prefix = inbox_of-prefix f.behaviour f.told (items f) ordered;
  entire = λ e. inbox_of-entire f.behaviour f.told (items f) e;
}

-- its inbox and what is discarded are all
pub inbox-discarded : (f : Receiving) → is_loose f.behaviour ≡ false → is_stopped f.closes ≡ true
    → inbox f ++ discarded f ≡ contents_of (by_number (items f))
inbox-discarded f ordered h =
    let all = contents_of (by_number (items f)) in
    let k = length (inbox f) in
    let part : inbox f ++ drop k all ≡ take k all ++ drop k all =
    ap (λ xs. xs ++ drop k all) (inbox-take f ordered) in
    rw h (part ∙ take-append-drop k all)

-- a loose sequence releases all that came
pub loose-releases : (f : Receiving) → is_loose f.behaviour ≡ true → LooseReleasesAll f
loose-releases f loose = record { inbox_ = inbox-loose f loose; discarded_ = discarded-loose f loose }
