-- The inbox and the discarded messages, as parts of all messages by number.
use Rattle.std.proofs.Common.{◌≡◌, ℕ, zero, suc, ◌+◌, ◌-◌, ◌<◌, ◌≤◌, Bool, true, false, cond, ◌==◌, List, [], ◌∷◌}
use Rattle.std.proofs.Common.{None, length, take, drop, refl, sym, ap, ◌∙◌, arith}
use Rattle.std.specs.Prelude.{slice_get}
use Rattle.std.proofs.Math.Seq.{take-length}
use Rattle.std.proofs.lemmas.List.{length-map}
use Rattle.std.proofs.lemmas.Option.{slice_get_past}
use Rattle.std.proofs.lemmas.Bool.Decides.{nat_tests}
use Rattle.rm_base.specs.declared.message.Behaviour.{Behaviour}
use Rattle.rm_base.specs.declared.message.Behaviour.TheVariants.{NoDiscard, EntireSequence, FollowingFirstGap}
use Rattle.rm_sides.specs.Destination.Incoming.{Receiving, items, is_loose, is_stopped, is_whole_by, inbox_of}
use Rattle.rm_sides.specs.Destination.Incoming.{discarded_of, inbox, discarded}
use Rattle.rm_sides.specs.Destination.LooseLemmas.{inbox_of-loose}
use Rattle.rm_sides.specs.Destination.MessageLemmas.{without_gap-take}
use Rattle.rm_sides.specs.Destination.Messages.{Item, by_number, contents_of, payload_in, item_at, sorted_onto}
use Rattle.rm_sides.specs.Destination.Messages.{with_message}

-- the first of a list are its first
slice_get-take : {A : Type 0} → (n : ℕ) (xs : List A) (k : ℕ) → k < n → slice_get (take n xs) k ≡ slice_get xs k
slice_get-take zero xs k h = absurd (omega arith)
slice_get-take (suc n) [] k h = refl
slice_get-take (suc n) (x ∷ xs) zero h = refl
slice_get-take (suc n) (x ∷ xs) (suc k) h = slice_get-take n xs k (omega arith)

-- the rest of a list is what stands behind
slice_get-drop : {A : Type 0} → (n : ℕ) (xs : List A) (k : ℕ) → slice_get (drop n xs) k ≡ slice_get xs (n + k)
slice_get-drop zero xs k = let none : 0 + k ≡ k = omega arith in rw none refl
slice_get-drop (suc n) [] k = refl
slice_get-drop (suc n) (x ∷ xs) k =
    let more : suc n + k ≡ suc (n + k) = omega arith in
    rw more (slice_get-drop n xs k)

-- the payload at a place, among the first items of a list
item_at-first : (xs ys : List Item) (i : ℕ) → ys ≡ take (length ys) xs → i ≤ length ys → item_at xs i ≡ item_at ys i
item_at-first xs ys zero h to = refl
item_at-first xs ys (suc i) h to =
    let ne : (suc i == 0) ≡ false = grind (arith, nat_tests) in
    let place : suc i - 1 ≡ i = omega arith in
    let part : slice_get (take (length ys) xs) i ≡ slice_get xs i = slice_get-take (length ys) xs i (omega arith) in
    let same : slice_get ys i ≡ slice_get (take (length ys) xs) i = ap (λ zs. slice_get zs i) h in
    rw (ne, place) (sym (ap payload_in (same ∙ part)))

-- past the end there is none
pub item_at-past : (ys : List Item) (i : ℕ) → length ys < i → item_at ys i ≡ None
item_at-past ys i past =
    let ne : (i == 0) ≡ false = grind (arith, nat_tests) in
    rw ne (ap payload_in (slice_get_past ys (i - 1) (omega arith)))

-- an ordered inbox is the first of all messages by number
inbox_of-take : {A : Type 0} → (b : Behaviour) (ns : List ℕ) (ms : List (ℕ × A)) → is_loose b ≡ false
    → inbox_of b ns ms ≡ take (length (inbox_of b ns ms)) (contents_of (by_number ms))
inbox_of-take NoDiscard ns ms ordered = absurd (cc)
inbox_of-take FollowingFirstGap ns ms ordered = without_gap-take 0 (by_number ms)
inbox_of-take EntireSequence ns ms ordered =
    elim (is_whole_by ns (by_number ms)) as
    (λ (t : Bool). cond t (contents_of (by_number ms)) []
    ≡ take (length (cond t (contents_of (by_number ms)) [])) (contents_of (by_number ms))) [
      | true ↦ sym (take-length (contents_of (by_number ms)))
      | false ↦ refl
    ]

pub inbox-take : (f : Receiving) → is_loose f.behaviour ≡ false
    → inbox f ≡ take (length (inbox f)) (contents_of (by_number (items f)))
inbox-take f ordered = inbox_of-take f.behaviour f.told (items f) ordered

-- the payload at a place of an ordered inbox
pub item_at-inbox : (f : Receiving) (i : ℕ) → is_loose f.behaviour ≡ false → i ≤ length (inbox f)
    → item_at (contents_of (by_number (items f))) i ≡ item_at (inbox f) i
item_at-inbox f i ordered to =
    item_at-first (contents_of (by_number (items f))) (inbox f) i (inbox-take f ordered) to

-- a loose inbox is all that came
pub inbox-loose : (f : Receiving) → is_loose f.behaviour ≡ true → inbox f ≡ contents_of (items f)
inbox-loose f loose = inbox_of-loose f.behaviour f.told (items f) loose

-- so nothing is left to be discarded
drop-past : {A : Type 0} → (n : ℕ) (xs : List A) → length xs ≤ n → drop n xs ≡ []
drop-past zero [] le = refl
drop-past zero (x ∷ xs) le = absurd (omega (arith, le))
drop-past (suc n) [] le = refl
drop-past (suc n) (x ∷ xs) le = drop-past n xs (omega (arith, le))

length-with : {A : Type 0} → (ms : List (ℕ × A)) (n : ℕ) (x : A) → length (with_message ms n x) ≤ length ms + 1
length-with [] n x = omega arith
length-with (m ∷ ms) n x =
    let rest : length (with_message ms n x) ≤ length ms + 1 = length-with ms n x in
    grind (arith, nat_tests, rest)

length-sorted : {A : Type 0} → (sorted came : List (ℕ × A))
    → length (sorted_onto sorted came) ≤ length sorted + length came
length-sorted sorted [] = omega arith
length-sorted sorted (m ∷ came) =
    let rest = length-sorted (with_message sorted m.0 m.1) came in
    let one = length-with sorted m.0 m.1 in
    omega (arith, rest, one)

pub discarded-loose : (f : Receiving) → is_loose f.behaviour ≡ true → discarded f ≡ []
discarded-loose f loose =
    let ms = items f in
    let all : length (inbox f) ≡ length ms = ap length (inbox-loose f loose) ∙ length-map ms (λ (m : ℕ × Item). m.1) in
    let few = length-sorted [] ms in
    let kept : length (contents_of (by_number ms)) ≡ length (by_number ms) =
    length-map (by_number ms) (λ (m : ℕ × Item). m.1) in
    let none : drop (length (inbox f)) (contents_of (by_number ms)) ≡ [] =
    drop-past (length (inbox f)) (contents_of (by_number ms)) (omega (arith, all, few, kept)) in
    elim (is_stopped f.closes) as (λ (t : Bool).
    cond t (drop (length (inbox f)) (contents_of (by_number ms))) [] ≡ []) [
      | true ↦ none
      | false ↦ refl
    ]

-- what is discarded
discarded_of-at : (closes : List Bool) (box : List Item) (ms : List (ℕ × Item)) (i : ℕ) → 0 < i
    → i ≤ length (discarded_of closes box ms)
    → item_at (contents_of ms) (length box + i) ≡ item_at (discarded_of closes box ms) i
discarded_of-at closes box ms i from to =
    let ne : (i == 0) ≡ false = grind (arith, nat_tests) in
    let ne2 : (length box + i == 0) ≡ false = grind (arith, nat_tests) in
    let place : length box + i - 1 ≡ length box + (i - 1) = omega arith in
    elim (is_stopped closes) as (λ (t : Bool). i ≤ length (cond t (drop (length box) (contents_of ms)) [])
    → item_at (contents_of ms) (length box + i) ≡ item_at (cond t (drop (length box) (contents_of ms)) []) i) [
      | true ↦ λ _. rw (ne, ne2, place) (ap payload_in (sym (slice_get-drop (length box) (contents_of ms) (i - 1))))
      | false ↦ λ h. absurd (omega arith)
    ] to

-- the payload at a place of what is discarded
pub item_at-discarded : (f : Receiving) (i : ℕ) → 0 < i → i ≤ length (discarded f)
    → item_at (contents_of (by_number (items f))) (length (inbox f) + i) ≡ item_at (discarded f) i
item_at-discarded f i from to = discarded_of-at f.closes (inbox f) (by_number (items f)) i from to
