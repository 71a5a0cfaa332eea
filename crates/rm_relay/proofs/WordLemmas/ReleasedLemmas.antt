-- What a node's records have in an inbox, all that it ever had release.
use Rattle.std.proofs.Common.{◌≡◌, ◌∙◌, ◌+◌, ◌-◌, ◌<◌, ◌==◌, ℕ, zero, suc, Bool, true, false, cond, List, [], ◌∷◌, ◌++◌}
use Rattle.std.proofs.Common.{length, take, drop, refl, sym, ap, arith, Some, None, inl, inr, ◌⊎◌}
use Rattle.std.specs.Prelude.{Option, ◌&&◌, slice_get}
use Rattle.std.specs.List.{AllByRecursion}
use Rattle.std.proofs.lemmas.Bool.{cases_Bool, true≢false}
use Rattle.std.proofs.lemmas.List.{take-append-drop}
use Rattle.rm_sides.specs.declared.ranges.range.Range.{Range}
use Rattle.rm_sides.specs.Ranges.Ranges.{count_of, in_ranges}
use Rattle.rm_base.specs.NumberSet.{greatest_of}
use Rattle.rm_base.specs.Numbered.{numbered}
use Rattle.rm_base.specs.declared.message.Behaviour.{Behaviour}
use Rattle.rm_base.specs.declared.message.Behaviour.TheVariants.{EntireSequence, FollowingFirstGap, NoDiscard}
use Rattle.rm_base.specs.declared.message.Payload.{Payload}
use Rattle.rm_sides.specs.Destination.ItemLemmas.{length-numbers_in, numbers_of-there, there-sorted}
use Rattle.rm_sides.specs.Destination.LooseLemmas.{inbox_of-loose}
use Rattle.rm_sides.specs.Destination.Messages.{Item, contents_of, gone_items, item_at, numbers_in, payload_in}
use Rattle.rm_sides.specs.Destination.Messages.{sorted_onto}
use Rattle.rm_sides.specs.Destination.Messages.{there_items, without_gap}
use Rattle.rm_sides.specs.Destination.Incoming.{inbox_of, is_loose, is_whole_by, last_number}
use Rattle.record_batch.specs.Fact.{Fact, Received, Purged}
use Rattle.record_batch.specs.Sequences.Destinations.{behaviour, cursor, inbox, items, messages, purged, received}
use Rattle.record_batch.specs.Sequences.Destinations.{received_of, released, told}
use Rattle.record_batch.specs.Sequences.Makers.{maker}
use Rattle.record_batch.specs.Snapshot.FactLemmas.{behaviour_same, messages_same, not-ordered, told_same}
use Rattle.record_batch.specs.Snapshot.ItemLemmas.{whole-marked}
use Rattle.record_batch.specs.Snapshot.PastLemmas.{from-one, inbox-past-is-there, whole-gap}
use Rattle.record_batch.specs.Snapshot.Same.{AreNumbers, all_marked, gone_count}
use Rattle.rm_protocol.specs.Pair.{HasNumber}
use Rattle.rm_protocol.specs.Sound.{Keeps, NothingIsGone}
use Rattle.rm_protocol.specs.Word.{Has}
use Rattle.rm_relay.specs.Word.FirstLemmas.{numbered-at}

-- ---- what is known of all that a node ever had

one-numbers : (t : ℕ) (rec : Fact) → HasNumber rec → AreNumbers (received_of t rec)
one-numbers t (Received s i p) h =
    elim (s == t) as (λ b. AreNumbers (cond b ((i, p) ∷ []) [])) [ true ↦ (omega (arith, h.0), tt) | false ↦ tt ]
one-numbers t rec h = tt

join-numbers : (ms ns : List (ℕ × Payload)) → AreNumbers ms → AreNumbers ns → AreNumbers (ms ++ ns)
join-numbers [] ns h k = k
join-numbers (m ∷ ms) ns h k = (h.0, join-numbers ms ns h.1 k)

pub are-numbers : (t : ℕ) (r : List Fact) → AllByRecursion HasNumber r → AreNumbers (received r t)
are-numbers t [] h = tt
are-numbers t (rec ∷ r) h =
    join-numbers (received_of t rec) (received r t) (one-numbers t rec h.0) (are-numbers t r h.1)

pub none-gone : (r : List Fact) (t : ℕ) → NothingIsGone r → purged r t ≡ []
none-gone [] t h = refl
none-gone (Purged s ps ∷ r) t h = absurd h.0
none-gone (rec ∷ r) t h = none-gone r t h.1

-- what the application consumed, and then the items past the cursor, is all that was released
pub has-released : (r whole : List Fact) (t : ℕ) → Keeps r whole → AllByRecursion HasNumber whole
    → Has r whole t (released whole t)
has-released r whole t k h = record {
  rest = drop (cursor r t) (released whole t);
  left = inbox-past-is-there r whole k.same (λ s. none-gone whole s k.live) t (are-numbers t whole h);
  all_ = sym (take-append-drop (cursor r t) (released whole t))
      ∙ ap (λ c. take c (released whole t) ++ drop (cursor r t) (released whole t)) (k.same.got t).cursor_;
}

-- ---- an item of the inbox that is not gone

gap-item : (ps : List Range) (k j : ℕ) (ms : List (ℕ × Payload)) (p : Payload)
    → slice_get (without_gap k (all_marked ps (there_items ms))) j ≡ Some (Some p)
    → slice_get (without_gap k ms) j ≡ Some p
gap-item ps k j [] p e = absurd (cc)
gap-item ps k j (m ∷ ms) p e =
    elim (m.0 == k + 1) as (λ b.
    slice_get (cond b (cond (in_ranges ps m.0) None (Some m.1)
    ∷ without_gap m.0 (all_marked ps (there_items ms))) []) j ≡ Some (Some p)
    → slice_get (cond b (m.1 ∷ without_gap m.0 ms) []) j ≡ Some p) [
      | true ↦ λ f. at (λ i g. gap-item ps m.0 i ms p g) j f
      | false ↦ λ f. absurd (cc)
    ] e
  where
    front : (b : Bool) → Some (cond b None (Some m.1)) ≡ Some (Some p) → Some m.1 ≡ Some p
    front true f = absurd (cc)
    front false f = let same : m.1 ≡ p = cc in ap (λ x. Some x) same

    at : ((i : ℕ) → slice_get (without_gap m.0 (all_marked ps (there_items ms))) i ≡ Some (Some p)
        → slice_get (without_gap m.0 ms) i ≡ Some p)
        → (i : ℕ) → slice_get (cond (in_ranges ps m.0) None (Some m.1)
        ∷ without_gap m.0 (all_marked ps (there_items ms))) i ≡ Some (Some p)
        → slice_get (m.1 ∷ without_gap m.0 ms) i ≡ Some p
    at rest zero f = front (in_ranges ps m.0) f
    at rest (suc i) f = rest i f

gap-there : (k : ℕ) (ms : List (ℕ × Payload)) → length (without_gap k (there_items ms)) ≡ length (without_gap k ms)
gap-there k [] = refl
gap-there k (m ∷ ms) = elim (m.0 == k + 1) as (λ b.
    length (cond b (Some m.1 ∷ without_gap m.0 (there_items ms)) [])
    ≡ length (cond b (m.1 ∷ without_gap m.0 ms) [])) [
      | true ↦ ap (λ n. suc n) (gap-there m.0 ms)
      | false ↦ refl
    ]

length-there : (ms : List (ℕ × Payload)) → length (there_items ms) ≡ length ms
length-there [] = refl
length-there (m ∷ ms) = ap (λ n. suc n) (length-there ms)

whole-there : (ns : List ℕ) (ms : List (ℕ × Payload)) → is_whole_by ns (there_items ms) ≡ is_whole_by ns ms
whole-there [] ms = refl
whole-there (n ∷ ns) ms =
    let last : last_number n (there_items ms) ≡ last_number n ms =
    ap (λ xs. cond (n == 0) (greatest_of xs) n) (numbers_of-there ms) in
    ap (λ k. (length (without_gap 0 (there_items ms)) == k) && (length (there_items ms) == k)) last
    ∙ ap (λ k. (k == last_number n ms) && (length (there_items ms) == last_number n ms)) (gap-there 0 ms)
    ∙ ap (λ k. (length (without_gap 0 ms) == last_number n ms) && (k == last_number n ms)) (length-there ms)

-- all of it is there, or nothing
whole-item : (ps : List Range) (ns : List ℕ) (ms : List (ℕ × Payload)) (j : ℕ) (p : Payload) (b c : Bool) → b ≡ c
    → (b ≡ true → contents_of (all_marked ps (there_items ms)) ≡ without_gap 0 (all_marked ps (there_items ms)))
    → (c ≡ true → contents_of ms ≡ without_gap 0 ms)
    → slice_get (cond b (contents_of (all_marked ps (there_items ms))) []) j ≡ Some (Some p)
    → slice_get (cond c (contents_of ms) []) j ≡ Some p
whole-item ps ns ms j p true true same f g e =
    ap (λ l. slice_get l j) (g refl)
    ∙ gap-item ps 0 j ms p (ap (λ l. slice_get l j) (sym (f refl)) ∙ e)
whole-item ps ns ms j p false c same f g e = absurd (cc)
whole-item ps ns ms j p true false same f g e = absurd (cc)

inbox-item : (y : Behaviour) (ps : List Range) (ns : List ℕ) (xs : List (ℕ × Item)) (ys : List (ℕ × Payload)) (j : ℕ)
    (p : Payload) → is_loose y ≡ false → sorted_onto [] xs ≡ all_marked ps (there_items (sorted_onto [] ys))
    → slice_get (inbox_of y ns xs) j ≡ Some (Some p) → slice_get (inbox_of y ns ys) j ≡ Some p
inbox-item FollowingFirstGap ps ns xs ys j p ordered same e =
    gap-item ps 0 j (sorted_onto [] ys) p (ap (λ zs. slice_get (without_gap 0 zs) j) (sym same) ∙ e)
inbox-item NoDiscard ps ns xs ys j p ordered same e = absurd (true≢false ordered)
inbox-item EntireSequence ps ns xs ys j p ordered same e =
    let ms = sorted_onto [] ys in
    let here : is_whole_by ns (all_marked ps (there_items ms)) ≡ is_whole_by ns ms =
    whole-marked ps ns (there_items ms) ∙ whole-there ns ms in
    whole-item ps ns ms j p (is_whole_by ns (all_marked ps (there_items ms))) (is_whole_by ns ms) here
    (λ h. whole-gap ns (all_marked ps (there_items ms)) h) (λ h. whole-gap ns ms h)
    (ap (λ zs. slice_get (cond (is_whole_by ns zs) (contents_of zs) []) j) (sym same) ∙ e)

-- of a loose sequence: behind those that are gone, in the order in which they came
at-there : (ms : List (ℕ × Payload)) (j : ℕ) (p : Payload)
    → slice_get (contents_of (there_items ms)) j ≡ Some (Some p) → slice_get (contents_of ms) j ≡ Some p
at-there [] j p e = absurd (cc)
at-there (m ∷ ms) zero p e =
    let f : Some (Some m.1) ≡ Some (Some p) = e in
    let same : m.1 ≡ p = cc (f) in ap (λ x. Some x) same
at-there (m ∷ ms) (suc j) p e = at-there ms j p e

at-joined : (ns : List ℕ) (ms : List (ℕ × Payload)) (j : ℕ) (p : Payload)
    → slice_get (contents_of (gone_items ns ++ there_items ms)) j ≡ Some (Some p)
    → (k : ℕ) × (j ≡ length ns + k) × (slice_get (contents_of ms) k ≡ Some p)
at-joined [] ms j p e = (j, (let f : j ≡ 0 + j = omega arith in f), at-there ms j p e)
at-joined (n ∷ ns) ms zero p e = let f : Some None ≡ Some (Some p) = e in absurd (cc (f))
at-joined (n ∷ ns) ms (suc j) p e =
    let rest = at-joined ns ms j p e in
    (rest.0, (let f : suc j ≡ suc (length ns) + rest.0 = omega (arith, rest.1) in f), rest.2)

contents-at : (k j : ℕ) (ms : List (ℕ × Payload))
    → slice_get (contents_of (drop k ms)) j ≡ slice_get (contents_of ms) (k + j)
contents-at zero j ms = ap (λ n. slice_get (contents_of ms) n) (let e : j ≡ 0 + j = omega arith in e)
contents-at (suc k) j [] = refl
contents-at (suc k) j (m ∷ ms) =
    contents-at k j ms ∙ ap (λ n. slice_get (contents_of (m ∷ ms)) n)
    (let e : suc (k + j) ≡ suc k + j = omega arith in e)

payload-there : (o : Option Item) (p : Payload) → payload_in o ≡ Some p → o ≡ Some (Some p)
payload-there None p e = absurd (cc)
payload-there (Some item) p e = ap (λ x. Some x) e

messages-whole : (whole : List Fact) (t : ℕ) → NothingIsGone whole
    → messages whole t ≡ there_items (sorted_onto [] (received whole t))
messages-whole whole t live =
    ap (λ ps. sorted_onto [] (gone_items (numbers_in ps) ++ there_items (received whole t)))
    (none-gone whole t live)
    ∙ there-sorted [] (received whole t)

-- an item that the records have at a place, all that the node ever had released there
pub item-there : (r whole : List Fact) (t n : ℕ) (p : Payload) → Keeps r whole → AllByRecursion HasNumber whole
    → item_at (inbox r t) (n + 1) ≡ Some p → numbered (released whole t) (n + 1) ≡ Some p
item-there r whole t n p k h e = numbered-at (released whole t) n ∙ by_order (cases_Bool (is_loose (behaviour whole t)))
  where
    are : AreNumbers (received whole t)
    are = are-numbers t whole h

    none : (s : ℕ) → purged whole s ≡ []
    none s = none-gone whole s k.live

    from : (i : ℕ) → in_ranges (purged r t) i ≡ true → 0 < i
    from = from-one r whole k.same none t are

    inbox-is : inbox r t ≡ inbox_of (behaviour whole t) (told whole t) (items r t)
    inbox-is =
        ap (λ y. inbox_of y (told r t) (items r t)) (behaviour_same r whole k.same t are from)
        ∙ ap (λ ns. inbox_of (behaviour whole t) ns (items r t)) (told_same r whole k.same t are from)

    there : slice_get (inbox_of (behaviour whole t) (told whole t) (items r t)) n ≡ Some (Some p)
    there =
        ap (λ l. slice_get l n) (sym inbox-is)
        ∙ sym (numbered-at (inbox r t) n) ∙ payload-there (numbered (inbox r t) (n + 1)) p e

    by_order : (is_loose (behaviour whole t) ≡ true) ⊎ (is_loose (behaviour whole t) ≡ false)
        → slice_get (released whole t) n ≡ Some p
    by_order (inl loose) =
        let first = (k.same.got t).earliest (not-ordered (maker whole t) loose) in
        let g = length (numbers_in (purged r t)) in
        let gone : gone_count whole t ≡ 0 = ap (λ ps. count_of ps) (none t) in
        let size : length (numbers_in (purged r t)) ≡ gone_count r t = length-numbers_in (purged r t) in
        let left : received r t ≡ drop g (received whole t) =
        first.left ∙ ap (λ i. drop i (received whole t))
        (let f : gone_count r t - gone_count whole t ≡ g = omega (arith, gone, size) in f) in
        let at = at-joined (numbers_in (purged r t)) (received r t) n p
        (ap (λ l. slice_get l n) (sym (inbox_of-loose (behaviour whole t) (told whole t) (items r t) loose))
        ∙ there) in
        ap (λ l. slice_get l n) (inbox_of-loose (behaviour whole t) (told whole t) (received whole t) loose)
        ∙ ap (λ i. slice_get (contents_of (received whole t)) i) at.1
        ∙ sym (contents-at g at.0 (received whole t))
        ∙ ap (λ ms. slice_get (contents_of ms) at.0) (sym left)
        ∙ at.2
    by_order (inr ordered) =
        inbox-item (behaviour whole t) (purged r t) (told whole t) (items r t) (received whole t) n p ordered
        (messages_same r whole k.same t are from
        ∙ ap (λ ms. all_marked (purged r t) ms) (messages-whole whole t k.live))
        there
