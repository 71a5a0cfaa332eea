-- What is due, by class and then by place.
use Rattle.std.proofs.Common.{◌≡◌, ℕ, zero, suc, ◌+◌, ◌-◌, ◌<◌, ◌≤◌, inl, inr, List, [], ◌∷◌, ◌++◌, Bool, ◌==◌, ◌&&◌}
use Rattle.std.proofs.Common.{nat_le, Option, Some, None, option_map, map, filter, length, drop, get_or, refl, sym}
use Rattle.std.proofs.Common.{ap, ap₂, subst, ◌∙◌, arith}
use Rattle.std.specs.Prelude.{All, AllPairs, flat_map, slice_get}
use Rattle.std.proofs.lemmas.Bool.{cases_Bool, cases_lt, lt-leb, le-leb, eqb-true}
use Rattle.std.proofs.lemmas.List.{map-append, get_or-map, at_drop_more}
use Rattle.std.proofs.lemmas.List.Elements.{All-head, All-tail, filter_passes}
use Rattle.std.proofs.lemmas.List.Kept.{AllPairs-filter}
use Rattle.std.proofs.lemmas.Option.{slice_get-map}
use Rattle.timers.specs.declared.links.links.Item.{Item}
use Rattle.timers.specs.Links.Items.{first_due, due_count, list_at}
use Rattle.timers.specs.declared.slots.table.Cell.{Cell}
use Rattle.timers.specs.Slots.Table.{cell_at, front, fronts, entry_of, entries}
use Rattle.timers.specs.Slots.Waits.{Entry, in_class, by_class, class_at, classes_in_order, due_at}
use Rattle.timers.proofs.SlotsLemmas.PlainLemmas.{AllPairs-tail, at_class}
use Rattle.timers.proofs.SlotsLemmas.TimedLemmas.{InOrder}

filter_both : (p q : Entry → Bool) (xs : List Entry) → filter (λ e. p e && q e) xs ≡ filter q (filter p xs)
filter_both p q [] = refl
filter_both p q (x ∷ xs) = elim (cases_Bool (p x)) [
  | inl passes ↦ elim (cases_Bool (q x)) [
    | inl also ↦ rw (passes, also) (ap (λ (v : List Entry). x ∷ v) (filter_both p q xs))
    | inr fails ↦ rw (passes, fails) (filter_both p q xs)
  ]
  | inr fails ↦ rw fails (filter_both p q xs)
]

-- the entries of a class that are due
abbrev pub due_of : ℕ → List Entry → List Entry
due_of now es = filter (λ e. nat_le e.due now) es

due_along_classes : (now : ℕ) (w : List Entry) (ls : List ℕ) →
    flat_map (λ c. filter (λ e. (e.class == c) && nat_le e.due now) w) ls ≡ flat_map (due_of now)
    (map (λ c. in_class c w) ls)
due_along_classes now w [] = refl
due_along_classes now w (c ∷ ls) =
    ap₂ (λ (a b : List Entry). a ++ b) (filter_both (λ e. e.class == c) (λ e. nat_le e.due now) w)
    (due_along_classes now w ls)

-- what is due, by the classes alone
pub due_by_class : (now : ℕ) (w : List Entry) → due_at now w ≡ flat_map (due_of now) (by_class w)
due_by_class now w = due_along_classes now w classes_in_order

-- the due moments rise
abbrev pub Rises : List Entry → Type 0
Rises es = AllPairs (λ one other. one.due ≤ other.due) es

-- where the first is late, none is due
none_due : (now low : ℕ) (es : List Entry) → All (λ e. low ≤ e.due) es → now < low → due_of now es ≡ []
none_due now low [] each late = refl
none_due now low (e ∷ es) each late =
    let first = All-head (λ (x : Entry). low ≤ x.due) e es each in
    rw (lt-leb e.due now (omega arith)) (none_due now low es (All-tail (λ (x : Entry). low ≤ x.due) e es each) late)

front_due : (cells : List Cell) (now : ℕ) (xs : List Item) → Rises (map (entry_of cells) xs) →
    due_of now (map (entry_of cells) xs) ≡ map (entry_of cells) (front now xs)
front_due cells now [] rising = refl
front_due cells now (x ∷ xs) rising =
    let t = AllPairs-tail (λ one other. one.due ≤ other.due) (entry_of cells x) (map (entry_of cells) xs) rising in
    elim (cases_lt now x.due) [
      | inl late ↦ rw (lt-leb x.due now late) (none_due now x.due (map (entry_of cells) xs) t.0 late)
      | inr due ↦ rw (le-leb x.due now due) (ap (λ (v : List Entry). entry_of cells x ∷ v) (front_due cells now xs t.1))
    ]

fronts_due : (cells : List Cell) (now : ℕ) (lists : List (List Item)) →
    ((l : ℕ) → l < length lists → Rises (map (entry_of cells) (list_at lists l))) →
    flat_map (due_of now) (entries cells lists) ≡ map (entry_of cells) (fronts now lists)
fronts_due cells now [] rising = refl
fronts_due cells now (xs ∷ lists) rising =
    ap₂ (λ (a b : List Entry). a ++ b) (front_due cells now xs (rising zero (omega arith)))
    (fronts_due cells now lists (λ l lt. rising (suc l) (omega arith)))
    ∙ sym (map-append (entry_of cells) (front now xs) (fronts now lists))

-- in a class of the plain list the due moments rise
class_rises : (w : List Entry) (class : ℕ) → AllPairs InOrder w → Rises (in_class class w)
class_rises w class rising i j d lt jl =
    let v = in_class class w in
    let of = filter_passes (λ e. e.class == class) w in
    let one : (get_or v i d).class ≡ class = eqb-true (get_or v i d).class class (of i d (omega arith)) in
    let other : (get_or v j d).class ≡ class = eqb-true (get_or v j d).class class (of j d jl) in
    AllPairs-filter InOrder (λ e. e.class == class) w rising i j d lt jl (one ∙ sym other)

-- the keys that are due are those of the items at the front of the lists
pub due_seen : (cells : List Cell) (lists : List (List Item)) (w : List Entry) (now k : ℕ) → length lists ≡ 7 →
    entries cells lists ≡ by_class w → AllPairs InOrder w →
    slice_get (due_at now w) k ≡ option_map (entry_of cells) (slice_get (fronts now lists) k)
due_seen cells lists w now k seven is rising =
    ap (λ (v : List Entry). slice_get v k)
    (due_by_class now w ∙ ap (flat_map (due_of now)) (sym is) ∙ fronts_due cells now lists
    (λ l lt.
    let here : in_class l w ≡ map (entry_of cells) (list_at lists l) =
    sym (at_class w l (omega arith)) ∙ ap (λ (c : List (List Entry)). class_at c l) (sym is)
    ∙ get_or-map (map (entry_of cells)) lists l [] [] lt in
    subst Rises here (class_rises w l rising)))
    ∙ slice_get-map (entry_of cells) (fronts now lists) k

-- what is due first is the first of them
pub first_front : (now : ℕ) (lists : List (List Item)) → first_due now lists ≡ slice_get (fronts now lists) 0
first_front now [] = refl
first_front now ([] ∷ lists) = first_front now lists
first_front now ((x ∷ xs) ∷ lists) = elim (cases_lt now x.due) [
  | inl late ↦ rw (lt-leb x.due now late) (first_front now lists)
  | inr due ↦ rw (le-leb x.due now due) refl
]

-- an item before the count of a list stands in front
pub front_has : (now : ℕ) (xs rest : List Item) (k : ℕ) (item : Item) → slice_get xs k ≡ Some item →
    k < due_count now xs →
    slice_get (front now xs ++ rest) k ≡ Some item
front_has now [] rest k item e lt = absurd (omega arith)
front_has now (x ∷ xs) rest k item e lt = elim (cases_lt now x.due) [
  | inl late ↦ let none : due_count now (x ∷ xs) ≡ 0 = rw (lt-leb x.due now late) refl in absurd (omega arith)
  | inr due ↦
      let more : due_count now (x ∷ xs) ≡ 1 + due_count now xs = rw (le-leb x.due now due) refl in
      rw (le-leb x.due now due) (by_place (front_has now xs rest) k e (omega arith))
]
  where
    by_place : ((j : ℕ) (i : Item) → slice_get xs j ≡ Some i → j < due_count now xs →
        slice_get (front now xs ++ rest) j ≡ Some i) → (j : ℕ) → slice_get (x ∷ xs) j ≡ Some item →
        j < 1 + due_count now xs → slice_get (x ∷ (front now xs ++ rest)) j ≡ Some item
    by_place more zero g below = g
    by_place more (suc j) g below = more j item g (omega arith)

-- behind the count the next lists go on
pub front_passed : (now : ℕ) (xs rest : List Item) (k : ℕ) → due_count now xs ≤ k →
    slice_get (front now xs ++ rest) k ≡ slice_get rest (k - due_count now xs)
front_passed now [] rest k le =
    let e : k ≡ k - 0 = omega arith in
    ap (slice_get rest) e
front_passed now (x ∷ xs) rest k le = elim (cases_lt now x.due) [
  | inl late ↦
      let e : k ≡ k - 0 = omega arith in
      rw (lt-leb x.due now late) (ap (slice_get rest) e)
  | inr due ↦
      let more : due_count now (x ∷ xs) ≡ 1 + due_count now xs = rw (le-leb x.due now due) refl in
      rw (le-leb x.due now due) (by_place (front_passed now xs rest) k (omega arith))
]
  where
    by_place : ((j : ℕ) → due_count now xs ≤ j → slice_get (front now xs ++ rest) j ≡ slice_get rest
        (j - due_count now xs)) →
        (j : ℕ) → 1 + due_count now xs ≤ j →
        slice_get (x ∷ (front now xs ++ rest)) j ≡ slice_get rest (j - (1 + due_count now xs))
    by_place more zero below = absurd (omega arith)
    by_place more (suc j) below =
        let e : j - due_count now xs ≡ suc j - (1 + due_count now xs) = omega arith in
        more j (omega arith) ∙ ap (slice_get rest) e

-- a place whose item is due, at most the count, is before it
pub count_above : (now : ℕ) (xs : List Item) (k : ℕ) (item : Item) → slice_get xs k ≡ Some item → item.due ≤ now →
    k ≤ due_count now xs → k < due_count now xs
count_above now [] k item e due le = absurd (cc)
count_above now (x ∷ xs) zero item e due le =
    let same : x ≡ item = cc in
    let here : x.due ≤ now = subst (λ (v : Item). v.due ≤ now) (sym same) due in
    let more : due_count now (x ∷ xs) ≡ 1 + due_count now xs = rw (le-leb x.due now here) refl in
    omega arith
count_above now (x ∷ xs) (suc k) item e due le = elim (cases_lt now x.due) [
  | inl late ↦ let none : due_count now (x ∷ xs) ≡ 0 = rw (lt-leb x.due now late) refl in absurd (omega arith)
  | inr first ↦
      let more : due_count now (x ∷ xs) ≡ 1 + due_count now xs = rw (le-leb x.due now first) refl in
      let rest = count_above now xs k item e due (omega arith) in
      omega arith
]

-- a place whose item is late is not
pub count_late : (now : ℕ) (xs : List Item) (k : ℕ) (item : Item) → slice_get xs k ≡ Some item → now < item.due →
    due_count now xs ≤ k
count_late now [] k item e late = absurd (cc)
count_late now (x ∷ xs) zero item e late =
    let same : x ≡ item = cc in
    let here : now < x.due = subst (λ (v : Item). now < v.due) (sym same) late in
    let none : due_count now (x ∷ xs) ≡ 0 = rw (lt-leb x.due now here) refl in
    omega arith
count_late now (x ∷ xs) (suc k) item e late = elim (cases_lt now x.due) [
  | inl first ↦ let none : due_count now (x ∷ xs) ≡ 0 = rw (lt-leb x.due now first) refl in omega arith
  | inr due ↦
      let more : due_count now (x ∷ xs) ≡ 1 + due_count now xs = rw (le-leb x.due now due) refl in
      let rest = count_late now xs k item e late in
      omega arith
]

-- nor is one behind the list
pub count_short : (now : ℕ) (xs : List Item) (k : ℕ) → slice_get xs k ≡ None → due_count now xs ≤ k
count_short now [] k e = omega arith
count_short now (x ∷ xs) zero e = absurd (cc)
count_short now (x ∷ xs) (suc k) e = elim (cases_lt now x.due) [
  | inl first ↦ let none : due_count now (x ∷ xs) ≡ 0 = rw (lt-leb x.due now first) refl in omega arith
  | inr due ↦
      let more : due_count now (x ∷ xs) ≡ 1 + due_count now xs = rw (le-leb x.due now due) refl in
      let rest = count_short now xs k e in
      omega arith
]

-- the fronts from one list on
pub fronts_more : (now : ℕ) (lists : List (List Item)) (i : ℕ) → i < length lists →
    fronts now (drop i lists) ≡ front now (list_at lists i) ++ fronts now (drop (i + 1) lists)
fronts_more now lists i lt = at_drop_more (fronts now) lists i [] lt

-- a key, by the cell or by the entry
pub option_key : (cells : List Cell) (o : Option Item) →
    option_map (λ (i : Item). (cell_at cells i.key).key) o ≡ option_map (λ (e : Entry). e.key)
    (option_map (entry_of cells) o)
option_key cells None = refl
option_key cells (Some item) = refl
