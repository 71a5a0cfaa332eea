-- Messages by number: what is looked up in them determines them.
use Rattle.std.proofs.Common.{◌≡◌, ℕ, suc, ◌+◌, ◌-◌, ◌<◌, ◌≤◌, ◌==◌, ◌||◌, ◌&&◌, Bool, true, false, cond, List, [], ◌∷◌}
use Rattle.std.proofs.Common.{◌++◌, length, refl, sym, ap, subst, ◌∙◌, arith, inl, inr, Option, Some, None}
use Rattle.std.specs.Option.{option_or}
use Rattle.std.proofs.lemmas.Bool.{cases_Bool, eqb-true, true≢false, false≢true}
use Rattle.std.proofs.lemmas.Bool.Decides.{nat_tests}
use Rattle.rm_sides.specs.declared.ranges.range.Range.{Range}
use Rattle.rm_sides.specs.Ranges.Ranges.{in_ranges}
use Rattle.rm_base.specs.NumberSet.{Rises, has_number, greatest_of}
use Rattle.rm_base.specs.NumberSetLemmas.{Rises-with_number}
use Rattle.rm_base.specs.declared.message.Payload.{Payload}
use Rattle.rm_base.specs.declared.message.Behaviour.{Behaviour}
use Rattle.rm_base.specs.declared.message.Behaviour.TheVariants.{EntireSequence, FollowingFirstGap, NoDiscard}
use Rattle.rm_sides.specs.Destination.ItemLemmas.{numbers-in}
use Rattle.rm_sides.specs.Destination.MessageLemmas.{numbers_of-with_message}
use Rattle.rm_sides.specs.Destination.Messages.{without}
use Rattle.rm_sides.specs.Destination.Messages.{with_message, sorted_onto, without_gap, numbers_of, contents_of, Item}
use Rattle.rm_sides.specs.Destination.Messages.{gone_items, there_items, numbers_in}
use Rattle.rm_sides.specs.Destination.Incoming.{inbox_of, is_loose, is_whole_by, last_number}
use Rattle.record_batch.specs.Snapshot.Same.{AreNumbers, all_marked}

-- what stands with a number
abbrev pub look : {A : Type 0} → List (ℕ × A) → ℕ → Option A
look [] n = None
look (m ∷ ms) n = cond (m.0 == n) (Some m.1) (look ms n)

pub look-below : {A : Type 0} (low : ℕ) (ms : List (ℕ × A)) (n : ℕ) → Rises low (numbers_of ms) → n ≤ low
    → look ms n ≡ None
look-below low [] n rise le = refl
look-below low (m ∷ ms) n rise le =
    let rest : look ms n ≡ None = look-below m.0 ms n rise.1 (omega (arith, rise.0, le)) in
    let first : low < m.0 = rise.0 in
    grind (arith, nat_tests, rest, first, le)

same-pair : {A : Type 0} (x y : ℕ × A) → x.0 ≡ y.0 → x.1 ≡ y.1 → x ≡ y
same-pair (i, a) (j, b) e f = ap (λ k. (k, a)) e ∙ ap (λ c. (j, c)) f

-- rising messages in which the same is looked up are the same
pub look-same : {A : Type 0} (low : ℕ) (xs ys : List (ℕ × A)) → Rises low (numbers_of xs) → Rises low (numbers_of ys)
    → ((n : ℕ) → look xs n ≡ look ys n) → xs ≡ ys
look-same low [] [] r s h = refl
look-same low [] (y ∷ ys) r s h = let e : look [] y.0 ≡ look (y ∷ ys) y.0 = h y.0 in grind (arith, nat_tests, e)
look-same low (x ∷ xs) [] r s h = let e : look (x ∷ xs) x.0 ≡ look [] x.0 = h x.0 in grind (arith, nat_tests, e)
look-same low (x ∷ xs) (y ∷ ys) r s h =
    let at_x : look (x ∷ xs) x.0 ≡ look (y ∷ ys) x.0 = h x.0 in
    let at_y : look (x ∷ xs) y.0 ≡ look (y ∷ ys) y.0 = h y.0 in
    let below_y : x.0 ≤ y.0 → look ys x.0 ≡ None = look-below y.0 ys x.0 s.1 in
    let below_x : y.0 ≤ x.0 → look xs y.0 ≡ None = look-below x.0 xs y.0 r.1 in
    let first : x.0 ≡ y.0 = grind (arith, nat_tests, at_x, at_y, below_x, below_y) in
    let second : x.1 ≡ y.1 = grind (arith, nat_tests, at_x, first) in
    let rest : xs ≡ ys = look-same x.0 xs ys r.1 (rw first s.1) (λ n.
    let e : look (x ∷ xs) n ≡ look (y ∷ ys) n = h n in
    let none_x : n ≤ x.0 → look xs n ≡ None = look-below x.0 xs n r.1 in
    let none_y : n ≤ y.0 → look ys n ≡ None = look-below y.0 ys n s.1 in
    grind (arith, nat_tests, e, none_x, none_y, first)) in
    ap (λ z. z ∷ xs) (same-pair x y first second) ∙ ap (λ zs. y ∷ zs) rest

pub look-with_message : {A : Type 0} (low : ℕ) (ms : List (ℕ × A)) (n : ℕ) (x : A) (k : ℕ) → Rises low (numbers_of ms)
    → look (with_message ms n x) k ≡ option_or (look ms k) (cond (n == k) (Some x) None)
look-with_message low [] n x k rise = refl
look-with_message low (m ∷ ms) n x k rise =
    let rest : look (with_message ms n x) k ≡ option_or (look ms k) (cond (n == k) (Some x) None) =
    look-with_message m.0 ms n x k rise.1 in
    let under : k ≤ m.0 → look ms k ≡ None = look-below m.0 ms k rise.1 in
    grind (arith, nat_tests, rest, under)

pub rises-sorted : {A : Type 0} (sorted came : List (ℕ × A)) → Rises 0 (numbers_of sorted) → AreNumbers came
    → Rises 0 (numbers_of (sorted_onto sorted came))
rises-sorted sorted [] rise are = rise
rises-sorted sorted (m ∷ came) rise are =
    rises-sorted (with_message sorted m.0 m.1) came
    (subst (Rises 0) (sym (numbers_of-with_message sorted m.0 m.1))
    (Rises-with_number 0 m.0 (numbers_of sorted) rise are.0))
    are.1

or-assoc : {A : Type 0} (x y z : Option A) → option_or (option_or x y) z ≡ option_or x (option_or y z)
or-assoc None y z = refl
or-assoc (Some x) y z = refl

pub look-sorted : {A : Type 0} (sorted came : List (ℕ × A)) (k : ℕ) → Rises 0 (numbers_of sorted) → AreNumbers came
    → look (sorted_onto sorted came) k ≡ option_or (look sorted k) (look came k)
look-sorted sorted [] k rise are = or_none (look sorted k)
  where
    or_none : {B : Type 0} (x : Option B) → x ≡ option_or x None
    or_none None = refl
    or_none (Some x) = refl
look-sorted sorted (m ∷ came) k rise are =
    look-sorted (with_message sorted m.0 m.1) came k
    (subst (Rises 0) (sym (numbers_of-with_message sorted m.0 m.1))
    (Rises-with_number 0 m.0 (numbers_of sorted) rise are.0))
    are.1
    ∙ ap (λ o. option_or o (look came k)) (look-with_message 0 sorted m.0 m.1 k rise)
    ∙ or-assoc (look sorted k) (cond (m.0 == k) (Some m.1) None) (look came k)
    ∙ ap (λ o. option_or (look sorted k) o) (front_or (m.0 == k))
  where
    front_or : (b : Bool) → option_or (cond b (Some m.1) None) (look came k) ≡ cond b (Some m.1) (look came k)
    front_or true = refl
    front_or false = refl

pub look-append : {A : Type 0} (xs ys : List (ℕ × A)) (n : ℕ) → look (xs ++ ys) n ≡ option_or (look xs n) (look ys n)
look-append [] ys n = refl
look-append (x ∷ xs) ys n =
    ap (λ o. cond (x.0 == n) (Some x.1) o) (look-append xs ys n) ∙ over (x.0 == n)
  where
    over : (b : Bool) → cond b (Some x.1) (option_or (look xs n) (look ys n))
        ≡ option_or (cond b (Some x.1) (look xs n)) (look ys n)
    over true = refl
    over false = refl

pub look-gone : (ns : List ℕ) (n : ℕ) → look (gone_items ns) n ≡ cond (has_number ns n) (Some None) None
look-gone [] n = refl
look-gone (x ∷ ns) n = ap (λ o. cond (x == n) (Some None) o) (look-gone ns n) ∙ over (x == n) (has_number ns n)
  where
    answer : Bool → Option Item
    answer b = cond b (Some None) None

    over : (b c : Bool) → cond b (Some None) (answer c) ≡ answer (b || c)
    over true c = refl
    over false c = refl

-- as an item
abbrev pub there_of : Option Payload → Option Item
there_of None = None
there_of (Some p) = Some (Some p)

pub look-there : (ms : List (ℕ × Payload)) (n : ℕ) → look (there_items ms) n ≡ there_of (look ms n)
look-there [] n = refl
look-there (m ∷ ms) n = ap (λ o. cond (m.0 == n) (Some (Some m.1)) o) (look-there ms n) ∙ over (m.0 == n)
  where
    over : (b : Bool) → cond b (Some (Some m.1)) (there_of (look ms n)) ≡ there_of (cond b (Some m.1) (look ms n))
    over true = refl
    over false = refl

pub look-without : {A : Type 0} (ps : List Range) (ms : List (ℕ × A)) (n : ℕ)
    → look (without ps ms) n ≡ cond (in_ranges ps n) None (look ms n)
look-without {A = A} ps [] n = over (in_ranges ps n)
  where
    answer : Bool → Option A
    answer b = cond b None None

    over : (b : Bool) → None ≡ answer b
    over true = refl
    over false = refl
look-without {A = A} ps (m ∷ ms) n = elim (cases_Bool (m.0 == n)) [
  | inl same ↦
      let at : m.0 ≡ n = eqb-true m.0 n same in
      elim (cases_Bool (in_ranges ps n)) [
        | inl gone ↦
            ap (λ b. look (cond b (without ps ms) (m ∷ without ps ms)) n) (ap (λ k. in_ranges ps k) at ∙ gone)
            ∙ look-without ps ms n
            ∙ ap (λ b. cond b None (look ms n)) gone
            ∙ sym (ap (λ b. cond b None (look (m ∷ ms) n)) gone)
        | inr there ↦
            ap (λ b. look (cond b (without ps ms) (m ∷ without ps ms)) n) (ap (λ k. in_ranges ps k) at ∙ there)
            ∙ ap (λ b. cond b (Some m.1) (look (without ps ms) n)) same
            ∙ sym (ap (λ b. cond b (Some m.1) (look ms n)) same)
            ∙ sym (ap (λ b. cond b None (look (m ∷ ms) n)) there)
      ]
  | inr other ↦
      first other (in_ranges ps m.0)
      ∙ look-without ps ms n
      ∙ ap (λ o. cond (in_ranges ps n) None o) (sym (ap (λ b. cond b (Some m.1) (look ms n)) other))
]
  where
    first : (m.0 == n) ≡ false → (b : Bool)
        → look (cond b (without ps ms) (m ∷ without ps ms)) n ≡ look (without ps ms) n
    first other true = refl
    first other false = ap (λ b. cond b (Some m.1) (look (without ps ms) n)) other

-- gone, where it is there
abbrev pub mark_look : Bool → Option Item → Option Item
mark_look b None = None
mark_look b (Some y) = Some (cond b None y)

pub look-marked : (ps : List Range) (ms : List (ℕ × Item)) (n : ℕ)
    → look (all_marked ps ms) n ≡ mark_look (in_ranges ps n) (look ms n)
look-marked ps [] n = refl
look-marked ps (m ∷ ms) n = elim (cases_Bool (m.0 == n)) [
  | inl same ↦
      ap (λ b. cond b (Some (cond (in_ranges ps m.0) None m.1)) (look (all_marked ps ms) n)) same
      ∙ ap (λ k. Some (cond (in_ranges ps k) None m.1)) (eqb-true m.0 n same)
      ∙ sym (ap (λ b. mark_look (in_ranges ps n) (cond b (Some m.1) (look ms n))) same)
  | inr other ↦
      ap (λ b. cond b (Some (cond (in_ranges ps m.0) None m.1)) (look (all_marked ps ms) n)) other
      ∙ look-marked ps ms n
      ∙ sym (ap (λ b. mark_look (in_ranges ps n) (cond b (Some m.1) (look ms n))) other)
]

-- something is there
abbrev pub is_there : {A : Type 0} → Option A → Bool
is_there None = false
is_there (Some x) = true

pub has-look : {A : Type 0} (ms : List (ℕ × A)) (n : ℕ) → has_number (numbers_of ms) n ≡ is_there (look ms n)
has-look [] n = refl
has-look (m ∷ ms) n = ap (λ b. (m.0 == n) || b) (has-look ms n) ∙ over (m.0 == n)
  where
    over : (b : Bool) → (b || is_there (look ms n)) ≡ is_there (cond b (Some m.1) (look ms n))
    over true = refl
    over false = refl

are-append : {A : Type 0} (xs ys : List (ℕ × A)) → AreNumbers xs → AreNumbers ys → AreNumbers (xs ++ ys)
are-append [] ys h g = g
are-append (x ∷ xs) ys h g = (h.0, are-append xs ys h.1 g)

are-gone : (ns : List ℕ) → ((n : ℕ) → has_number ns n ≡ true → 0 < n) → AreNumbers (gone_items ns)
are-gone [] h = tt
are-gone (x ∷ ns) h =
    (h x (grind (arith, nat_tests)), are-gone ns (λ n e. h n (grind (arith, nat_tests, e))))

are-there : (ms : List (ℕ × Payload)) → AreNumbers ms → AreNumbers (there_items ms)
are-there [] h = tt
are-there (m ∷ ms) h = (h.0, are-there ms h.1)

are-without : {A : Type 0} (ps : List Range) (ms : List (ℕ × A)) → AreNumbers ms → AreNumbers (without ps ms)
are-without ps [] h = tt
are-without ps (m ∷ ms) h = elim (in_ranges ps m.0) as (λ b. AreNumbers (cond b (without ps ms) (m ∷ without ps ms))) [
  | true ↦ are-without ps ms h.1
  | false ↦ (h.0, are-without ps ms h.1)
]

-- gone and not gone, of the ranges and of messages
abbrev pub joined : List Range → List (ℕ × Payload) → List (ℕ × Item)
joined ps ms = gone_items (numbers_in ps) ++ there_items ms

are-joined : (ps : List Range) (ms : List (ℕ × Payload)) → ((n : ℕ) → in_ranges ps n ≡ true → 0 < n) → AreNumbers ms
    → AreNumbers (joined ps ms)
are-joined ps ms from are =
    are-append (gone_items (numbers_in ps)) (there_items ms)
    (are-gone (numbers_in ps) (λ n e. from n (sym (numbers-in ps n) ∙ e))) (are-there ms are)

-- what is looked up in both
abbrev joined_look : Bool → Option Payload → Option Item
joined_look p o = option_or (cond p (Some None) None) (there_of o)

look-joined : (ps : List Range) (ms : List (ℕ × Payload)) (n : ℕ)
    → look (joined ps ms) n ≡ joined_look (in_ranges ps n) (look ms n)
look-joined ps ms n =
    look-append (gone_items (numbers_in ps)) (there_items ms) n
    ∙ ap (λ o. option_or o (look (there_items ms) n)) (look-gone (numbers_in ps) n
    ∙ ap (λ b. cond b (Some None) None) (numbers-in ps n))
    ∙ ap (λ o. option_or (cond (in_ranges ps n) (Some None) None) o) (look-there ms n)

look_marks : (p r : Bool) (o : Option Payload) → (r ≡ true → p ≡ true)
    → is_there (joined_look p (cond p None o)) ≡ is_there (joined_look r o)
    → joined_look p (cond p None o) ≡ mark_look p (joined_look r o)
look_marks true true o more held = refl
look_marks true false None more held = absurd (true≢false held)
look_marks true false (Some x) more held = refl
look_marks false true o more held = absurd (false≢true (more refl))
look_marks false false None more held = refl
look_marks false false (Some x) more held = refl

numbers-marked : (ps : List Range) (ms : List (ℕ × Item)) → numbers_of (all_marked ps ms) ≡ numbers_of ms
numbers-marked ps [] = refl
numbers-marked ps (m ∷ ms) = ap (λ ns. m.0 ∷ ns) (numbers-marked ps ms)

-- by rising number: the same messages, more of which are gone
pub sorted-marked : (ps rs : List Range) (ms : List (ℕ × Payload))
    → ((n : ℕ) → in_ranges rs n ≡ true → in_ranges ps n ≡ true)
    → ((n : ℕ) → has_number (numbers_of (joined ps (without ps ms))) n ≡ has_number (numbers_of (joined rs ms)) n)
    → ((n : ℕ) → in_ranges ps n ≡ true → 0 < n) → AreNumbers ms
    → sorted_onto [] (joined ps (without ps ms)) ≡ all_marked ps (sorted_onto [] (joined rs ms))
sorted-marked ps rs ms more held from are =
    let left = are-joined ps (without ps ms) from (are-without ps ms are) in
    let right = are-joined rs ms (λ n e. from n (more n e)) are in
    look-same 0 _ _ (rises-sorted [] (joined ps (without ps ms)) tt left)
    (subst (Rises 0) (sym (numbers-marked ps (sorted_onto [] (joined rs ms))))
    (rises-sorted [] (joined rs ms) tt right))
    (λ n.
    let here : look (joined ps (without ps ms)) n
    ≡ joined_look (in_ranges ps n) (cond (in_ranges ps n) None (look ms n)) =
    look-joined ps (without ps ms) n ∙ ap (λ o. joined_look (in_ranges ps n) o) (look-without ps ms n) in
    let there = look-joined rs ms n in
    look-sorted [] (joined ps (without ps ms)) n tt left
    ∙ here
    ∙ look_marks (in_ranges ps n) (in_ranges rs n) (look ms n) (more n)
    (ap is_there (sym here) ∙ sym (has-look (joined ps (without ps ms)) n) ∙ held n ∙ has-look (joined rs ms) n
    ∙ ap is_there there)
    ∙ ap (λ o. mark_look (in_ranges ps n) o) (sym there)
    ∙ ap (λ o. mark_look (in_ranges ps n) o) (sym (look-sorted [] (joined rs ms) n tt right))
    ∙ sym (look-marked ps (sorted_onto [] (joined rs ms)) n))

-- ---- what is read of numbers alone is the same

pub gap-marked : (ps : List Range) (k : ℕ) (ms : List (ℕ × Item))
    → length (without_gap k (all_marked ps ms)) ≡ length (without_gap k ms)
gap-marked ps k [] = refl
gap-marked ps k (m ∷ ms) = elim (m.0 == k + 1) as (λ b.
    length (cond b (cond (in_ranges ps m.0) None m.1 ∷ without_gap m.0 (all_marked ps ms)) [])
    ≡ length (cond b (m.1 ∷ without_gap m.0 ms) [])) [
      | true ↦ ap (λ n. suc n) (gap-marked ps m.0 ms)
      | false ↦ refl
    ]

pub length-marked : (ps : List Range) (ms : List (ℕ × Item)) → length (all_marked ps ms) ≡ length ms
length-marked ps [] = refl
length-marked ps (m ∷ ms) = ap (λ n. suc n) (length-marked ps ms)

pub length-contents : {A : Type 0} (ms : List (ℕ × A)) → length (contents_of ms) ≡ length ms
length-contents [] = refl
length-contents (m ∷ ms) = ap (λ n. suc n) (length-contents ms)

pub whole-marked : (ps : List Range) (ns : List ℕ) (ms : List (ℕ × Item))
    → is_whole_by ns (all_marked ps ms) ≡ is_whole_by ns ms
whole-marked ps [] ms = refl
whole-marked ps (n ∷ ns) ms =
    let last : last_number n (all_marked ps ms) ≡ last_number n ms =
    ap (λ xs. cond (n == 0) (greatest_of xs) n) (numbers-marked ps ms) in
    ap (λ k. (length (without_gap 0 (all_marked ps ms)) == k) && (length (all_marked ps ms) == k)) last
    ∙ ap (λ k. (k == last_number n ms) && (length (all_marked ps ms) == last_number n ms)) (gap-marked ps 0 ms)
    ∙ ap (λ k. (length (without_gap 0 ms) == last_number n ms) && (k == last_number n ms)) (length-marked ps ms)

-- the inbox of an ordered sequence has as many items
pub inbox-marked : (y : Behaviour) (ps : List Range) (ns : List ℕ) (xs ys : List (ℕ × Item)) → is_loose y ≡ false
    → sorted_onto [] xs ≡ all_marked ps (sorted_onto [] ys) → length (inbox_of y ns xs) ≡ length (inbox_of y ns ys)
inbox-marked EntireSequence ps ns xs ys ordered same =
    let ms = sorted_onto [] ys in
    ap (λ zs. length (cond (is_whole_by ns zs) (contents_of zs) [])) same
    ∙ ap (λ b. length (cond b (contents_of (all_marked ps ms)) [])) (whole-marked ps ns ms)
    ∙ over (is_whole_by ns ms)
  where
    over : (b : Bool) → length (cond b (contents_of (all_marked ps (sorted_onto [] ys))) [])
        ≡ length (cond b (contents_of (sorted_onto [] ys)) [])
    over true =
        let ms = sorted_onto [] ys in
        length-contents (all_marked ps ms) ∙ length-marked ps ms ∙ sym (length-contents ms)
    over false = refl
inbox-marked FollowingFirstGap ps ns xs ys ordered same =
    ap (λ zs. length (without_gap 0 zs)) same ∙ gap-marked ps 0 (sorted_onto [] ys)
inbox-marked NoDiscard ps ns xs ys ordered same = absurd (true≢false ordered)
