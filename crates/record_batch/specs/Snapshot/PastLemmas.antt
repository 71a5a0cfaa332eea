-- Past the cursor nothing is gone: the inbox there is what all records that a node ever had release.
use Rattle.std.proofs.Common.{◌≡◌, ℕ, zero, suc, ◌+◌, ◌-◌, ◌<◌, ◌≤◌, ◌==◌, true, false, cond, List, [], ◌∷◌, ◌++◌}
use Rattle.std.proofs.Common.{length, map}
use Rattle.std.proofs.Common.{refl, sym, ap, subst, ◌∙◌, arith, inl, inr, Some, None}
use Rattle.std.specs.Prelude.{drop, ◌&&◌, ◌||◌}
use Rattle.std.proofs.lemmas.Bool.{and_parts, cases_Bool, eqb-true, true≢false}
use Rattle.rm_sides.specs.declared.ranges.range.Range.{Range}
use Rattle.rm_sides.specs.Ranges.Ranges.{count_of, in_ranges}
use Rattle.rm_base.specs.NumberSet.{greatest_of, has_number}
use Rattle.rm_base.specs.declared.message.Behaviour.{Behaviour}
use Rattle.rm_base.specs.declared.message.Behaviour.TheVariants.{EntireSequence, FollowingFirstGap, NoDiscard}
use Rattle.rm_base.specs.declared.message.Payload.{Payload}
use Rattle.rm_sides.specs.Destination.ItemLemmas.{has-more, length-numbers_in, numbers-in, numbers_of-both}
use Rattle.rm_sides.specs.Destination.ItemLemmas.{numbers_of-there}
use Rattle.rm_sides.specs.Destination.ItemLemmas.{there-sorted}
use Rattle.rm_sides.specs.Destination.LooseLemmas.{inbox_of-loose}
use Rattle.rm_sides.specs.Destination.Messages.{contents_of, numbers_of, without_gap, sorted_onto, Item, gone_items}
use Rattle.rm_sides.specs.Destination.Messages.{numbers_in, there_items}
use Rattle.rm_sides.specs.Destination.Incoming.{inbox_of, is_loose, is_whole_by, last_number}
use Rattle.record_batch.specs.Fact.{Fact}
use Rattle.record_batch.specs.Sequences.Destinations.{behaviour, cursor, held, inbox, items, messages, purged, received}
use Rattle.record_batch.specs.Sequences.Destinations.{released, told}
use Rattle.record_batch.specs.Sequences.Makers.{maker}
use Rattle.record_batch.specs.Snapshot.FactLemmas.{messages_same, not-ordered, told_same, behaviour_same}
use Rattle.record_batch.specs.Snapshot.ItemLemmas.{whole-marked}
use Rattle.record_batch.specs.Snapshot.Same.{AreNumbers, InboxPastIsThere, NothingIsGone, SaysTheSame, all_marked}
use Rattle.record_batch.specs.Snapshot.Same.{gone_count}

-- ---- past the cursor nothing is gone

gap-left : (ps : List Range) (c k : ℕ) (ms : List (ℕ × Payload)) → ((n : ℕ) → k + c < n → in_ranges ps n ≡ false)
    → drop c (without_gap k (all_marked ps (there_items ms))) ≡ map Some (drop c (without_gap k ms))
gap-left ps zero k [] none = refl
gap-left ps (suc c) k [] none = refl
gap-left ps zero k (m ∷ ms) none = elim (cases_Bool (m.0 == k + 1)) [
  | inl next ↦
      let at : m.0 ≡ k + 1 = eqb-true m.0 (k + 1) next in
      let there : in_ranges ps m.0 ≡ false = none m.0 (omega (arith, at)) in
      ap (λ b. cond b (cond (in_ranges ps m.0) None (Some m.1) ∷ without_gap m.0
      (all_marked ps (there_items ms))) []) next
      ∙ ap (λ b. cond b None (Some m.1) ∷ without_gap m.0 (all_marked ps (there_items ms))) there
      ∙ ap (λ xs. Some m.1 ∷ xs) (gap-left ps 0 m.0 ms (λ n lt. none n (omega (arith, lt, at))))
      ∙ sym (ap (λ b. map Some (cond b (m.1 ∷ without_gap m.0 ms) [])) next)
  | inr gap ↦
      ap (λ b. cond b (cond (in_ranges ps m.0) None (Some m.1) ∷ without_gap m.0
      (all_marked ps (there_items ms))) []) gap
      ∙ sym (ap (λ b. map Some (cond b (m.1 ∷ without_gap m.0 ms) [])) gap)
]
gap-left ps (suc c) k (m ∷ ms) none = elim (cases_Bool (m.0 == k + 1)) [
  | inl next ↦
      let at : m.0 ≡ k + 1 = eqb-true m.0 (k + 1) next in
      ap (λ b. drop (suc c) (cond b (cond (in_ranges ps m.0) None (Some m.1)
      ∷ without_gap m.0 (all_marked ps (there_items ms))) [])) next
      ∙ gap-left ps c m.0 ms (λ n lt. none n (omega (arith, lt, at)))
      ∙ sym (ap (λ b. map Some (drop (suc c) (cond b (m.1 ∷ without_gap m.0 ms) []))) next)
  | inr gap ↦
      ap (λ b. drop (suc c) (cond b (cond (in_ranges ps m.0) None (Some m.1)
      ∷ without_gap m.0 (all_marked ps (there_items ms))) [])) gap
      ∙ sym (ap (λ b. map Some (drop (suc c) (cond b (m.1 ∷ without_gap m.0 ms) []))) gap)
]

-- messages without a gap are all of them where they are as many
all_of_gap : {A : Type 0} (k : ℕ) (ms : List (ℕ × A)) → length (without_gap k ms) ≡ length ms
    → without_gap k ms ≡ contents_of ms
all_of_gap k [] e = refl
all_of_gap k (m ∷ ms) e = elim (cases_Bool (m.0 == k + 1)) [
  | inl next ↦
      let all : suc (length (without_gap m.0 ms)) ≡ suc (length ms) =
      sym (ap (λ b. length (cond b (m.1 ∷ without_gap m.0 ms) [])) next) ∙ e in
      ap (λ b. cond b (m.1 ∷ without_gap m.0 ms) []) next
      ∙ ap (λ xs. m.1 ∷ xs) (all_of_gap m.0 ms (omega (arith, all)))
  | inr gap ↦
      let none : 0 ≡ suc (length ms) = sym (ap (λ b. length (cond b (m.1 ∷ without_gap m.0 ms) [])) gap) ∙ e in
      absurd (omega (arith, none))
]

pub whole-gap : {A : Type 0} (ns : List ℕ) (ms : List (ℕ × A)) → is_whole_by ns ms ≡ true
    → contents_of ms ≡ without_gap 0 ms
whole-gap [] ms e = absurd (true≢false (sym e))
whole-gap (n ∷ ns) ms e =
    let parts = and_parts (length (without_gap 0 ms) == last_number n ms) (length ms == last_number n ms) e in
    sym (all_of_gap 0 ms (eqb-true _ _ parts.0 ∙ sym (eqb-true _ _ parts.1)))

inbox-left : (y : Behaviour) (ps : List Range) (c : ℕ) (ns : List ℕ) (xs : List (ℕ × Item))
    (ys : List (ℕ × Payload)) → is_loose y ≡ false
    → sorted_onto [] xs ≡ all_marked ps (there_items (sorted_onto [] ys))
    → ((n : ℕ) → c < n → in_ranges ps n ≡ false)
    → drop c (inbox_of y ns xs) ≡ map Some (drop c (inbox_of y ns ys))
inbox-left FollowingFirstGap ps c ns xs ys ordered same none =
    ap (λ zs. drop c (without_gap 0 zs)) same
    ∙ gap-left ps c 0 (sorted_onto [] ys) (λ n lt. none n (omega (arith, lt)))
inbox-left NoDiscard ps c ns xs ys ordered same none = absurd (true≢false ordered)
inbox-left EntireSequence ps c ns xs ys ordered same none =
    ap (λ zs. drop c (cond (is_whole_by ns zs) (contents_of zs) [])) same ∙ entire (sorted_onto [] ys)
  where
    nothing : (c : ℕ) → drop {A = Item} c [] ≡ map Some (drop {A = Payload} c [])
    nothing zero = refl
    nothing (suc c) = refl

    gap-there : (k : ℕ) (ms : List (ℕ × Payload)) → length (without_gap k (there_items ms)) ≡ length (without_gap k ms)
    gap-there k [] = refl
    gap-there k (m ∷ ms) = elim (m.0 == k + 1) as (λ b.
        length (cond b (Some m.1 ∷ without_gap m.0 (there_items ms)) [])
        ≡ length (cond b (m.1 ∷ without_gap m.0 ms) [])) [
          | true ↦ ap (λ n. suc n) (gap-there m.0 ms)
          | false ↦ refl
        ]

    length-there : (ms : List (ℕ × Payload)) → length (there_items ms) ≡ length ms
    length-there [] = refl
    length-there (m ∷ ms) = ap (λ n. suc n) (length-there ms)

    whole-there : (ns : List ℕ) (ms : List (ℕ × Payload)) → is_whole_by ns (there_items ms) ≡ is_whole_by ns ms
    whole-there [] ms = refl
    whole-there (n ∷ ns) ms =
        let last : last_number n (there_items ms) ≡ last_number n ms =
        ap (λ xs. cond (n == 0) (greatest_of xs) n) (numbers_of-there ms) in
        ap (λ k. (length (without_gap 0 (there_items ms)) == k) && (length (there_items ms) == k)) last
        ∙ ap (λ k. (k == last_number n ms) && (length (there_items ms) == last_number n ms)) (gap-there 0 ms)
        ∙ ap (λ k. (length (without_gap 0 ms) == last_number n ms) && (k == last_number n ms)) (length-there ms)

    entire : (ms : List (ℕ × Payload))
        → drop c
        (cond (is_whole_by ns (all_marked ps (there_items ms))) (contents_of (all_marked ps (there_items ms))) [])
        ≡ map Some (drop c (cond (is_whole_by ns ms) (contents_of ms) []))
    entire ms = elim (cases_Bool (is_whole_by ns ms)) [
      | inl all ↦
          let here : is_whole_by ns (all_marked ps (there_items ms)) ≡ true =
          whole-marked ps ns (there_items ms) ∙ whole-there ns ms ∙ all in
          ap (λ b. drop c (cond b (contents_of (all_marked ps (there_items ms))) [])) here
          ∙ ap (λ xs. drop c xs) (whole-gap ns (all_marked ps (there_items ms)) here)
          ∙ gap-left ps c 0 ms (λ n lt. none n (omega (arith, lt)))
          ∙ ap (λ xs. map Some (drop c xs)) (sym (whole-gap ns ms all))
          ∙ sym (ap (λ b. map Some (drop c (cond b (contents_of ms) []))) all)
      | inr not_all ↦
          ap (λ b. drop c (cond b (contents_of (all_marked ps (there_items ms))) []))
          (whole-marked ps ns (there_items ms) ∙ whole-there ns ms ∙ not_all)
          ∙ nothing c
          ∙ sym (ap (λ b. map Some (drop c (cond b (contents_of ms) []))) not_all)
    ]

-- past what is gone a loose inbox has the payloads of the messages that are there
contents-joined : (ns : List ℕ) (ms : List (ℕ × Payload)) (c : ℕ) → length ns ≤ c
    → drop c (contents_of (gone_items ns ++ there_items ms)) ≡ map Some (drop (c - length ns) (contents_of ms))
contents-joined [] ms c le =
    of_there c ms ∙ ap (λ k. map Some (drop k (contents_of ms))) (let e : c ≡ c - 0 = omega arith in e)
  where
    of_there : (c : ℕ) (ms : List (ℕ × Payload))
        → drop c (contents_of (there_items ms)) ≡ map Some (drop c (contents_of ms))
    of_there zero [] = refl
    of_there zero (m ∷ ms) = ap (λ xs. Some m.1 ∷ xs) (of_there zero ms)
    of_there (suc c) [] = refl
    of_there (suc c) (m ∷ ms) = of_there c ms
contents-joined (n ∷ ns) ms zero le = absurd (omega (arith, le))
contents-joined (n ∷ ns) ms (suc c) le =
    let same : suc c - suc (length ns) ≡ c - length ns = omega arith in
    rw same (contents-joined ns ms c (omega (arith, le)))

drop-none : (n : ℕ) → drop n (contents_of {A = Payload} []) ≡ []
drop-none zero = refl
drop-none (suc n) = refl

-- of what was dropped before, still more is dropped
contents-dropped : (j k : ℕ) (ms : List (ℕ × Payload))
    → drop j (contents_of (drop k ms)) ≡ drop (k + j) (contents_of ms)
contents-dropped j zero ms = ap (λ n. drop n (contents_of ms)) (let e : j ≡ 0 + j = omega arith in e)
contents-dropped zero (suc k) [] = sym (drop-none (suc k + 0))
contents-dropped (suc j) (suc k) [] = sym (drop-none (suc k + suc j))
contents-dropped j (suc k) (m ∷ ms) =
    let same : suc k + j ≡ suc (k + j) = omega arith in
    rw same (contents-dropped j k ms)

-- ---- of a list that says the same as all records that a node ever had

has-positive : (ms : List (ℕ × Payload)) (n : ℕ) → AreNumbers ms → has_number (numbers_of ms) n ≡ true → 0 < n
has-positive [] n are e = absurd (true≢false (sym e))
has-positive (m ∷ ms) n are e = elim (cases_Bool (m.0 == n)) [
  | inl same ↦ subst (λ k. 0 < k) (eqb-true m.0 n same) are.0
  | inr other ↦ has-positive ms n are.1 (sym (ap (λ b. b || has_number (numbers_of ms) n) other) ∙ e)
]

module _ (r whole : List Fact) (same : SaysTheSame r whole) (none : NothingIsGone whole) (t : ℕ)
    (are : AreNumbers (received whole t)) where
  pub held-whole : held whole t ≡ numbers_of (received whole t)
  held-whole = ap (λ ps. numbers_of (gone_items (numbers_in ps) ++ there_items (received whole t))) (none t)
      ∙ numbers_of-both [] (received whole t)

  pub from-one : (n : ℕ) → in_ranges (purged r t) n ≡ true → 0 < n
  from-one n e =
      let at : has_number (held r t) n ≡ true =
      ap (λ ns. has_number ns n) (numbers_of-both (numbers_in (purged r t)) (received r t))
      ∙ has-more (numbers_in (purged r t)) (numbers_of (received r t)) n
      ∙ ap (λ b. b || has_number (numbers_of (received r t)) n) (numbers-in (purged r t) n ∙ e) in
      has-positive (received whole t) n are
      (ap (λ ns. has_number ns n) (sym held-whole) ∙ sym ((same.got t).held_ n) ∙ at)

  messages-whole : messages whole t ≡ there_items (sorted_onto [] (received whole t))
  messages-whole =
      ap (λ ps. sorted_onto [] (gone_items (numbers_in ps) ++ there_items (received whole t))) (none t)
      ∙ there-sorted [] (received whole t)

  pub inbox-past : drop (cursor r t) (inbox r t) ≡ map Some (drop (cursor r t) (released whole t))
  inbox-past =
      ap (λ y. drop (cursor r t) (inbox_of y (told r t) (items r t))) (behaviour_same r whole same t are from-one)
      ∙ ap (λ ns. drop (cursor r t) (inbox_of (behaviour whole t) ns (items r t)))
      (told_same r whole same t are from-one)
      ∙ elim (cases_Bool (is_loose (behaviour whole t))) [
        | inl loose ↦
            let first = (same.got t).earliest (not-ordered (maker whole t) loose) in
            let gone : gone_count whole t ≡ 0 = ap (λ ps. count_of ps) (none t) in
            let size : length (numbers_in (purged r t)) ≡ gone_count r t = length-numbers_in (purged r t) in
            let g = length (numbers_in (purged r t)) in
            let left : received r t ≡ drop g (received whole t) =
            first.left ∙ ap (λ k. drop k (received whole t))
            (let e : gone_count r t - gone_count whole t ≡ g = omega (arith, gone, size) in e) in
            let reach : g ≤ cursor r t = omega (arith, first.reach, size) in
            ap (λ xs. drop (cursor r t) xs)
            (inbox_of-loose (behaviour whole t) (told whole t) (items r t) loose)
            ∙ contents-joined (numbers_in (purged r t)) (received r t) (cursor r t) reach
            ∙ ap (λ ms. map Some (drop (cursor r t - g) (contents_of ms))) left
            ∙ ap (λ xs. map Some xs) (contents-dropped (cursor r t - g) g (received whole t))
            ∙ ap (λ k. map Some (drop k (contents_of (received whole t))))
            (let e : g + (cursor r t - g) ≡ cursor r t = omega (arith, reach) in e)
            ∙ sym (ap (λ xs. map Some (drop (cursor r t) xs))
            (inbox_of-loose (behaviour whole t) (told whole t) (received whole t) loose))
        | inr ordered ↦
            inbox-left (behaviour whole t) (purged r t) (cursor r t) (told whole t) (items r t) (received whole t)
            ordered
            (messages_same r whole same t are from-one ∙ ap (λ ms. all_marked (purged r t) ms) messages-whole)
            ((same.got t).below ordered)
      ]

pub inbox-past-is-there : InboxPastIsThere
inbox-past-is-there r whole same none s are = inbox-past r whole same none s are
