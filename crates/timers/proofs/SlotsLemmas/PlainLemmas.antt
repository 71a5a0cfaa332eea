-- One plain list in the order of the last move, seen by class.
use Rattle.std.proofs.Common.{◌≡◌, ◌≢◌, ℕ, zero, suc, ◌<◌, inl, inr, List, [], ◌∷◌, ◌++◌, not, ◌==◌, map, length}
use Rattle.std.proofs.Common.{get_or, set, refl, sym, ap, ap₂, ◌∙◌, arith, length-set}
use Rattle.std.specs.Prelude.{All, AllPairs}
use Rattle.std.proofs.lemmas.Bool.{cases_eq, eq-eqb, ne_eqb}
use Rattle.std.proofs.lemmas.List.{get_or-set_same, get_or-set_other, get_or_default, same_lists, append-nil}
use Rattle.std.proofs.lemmas.List.Elements.{filter-append, All-nil, All-cons, All-head, All-tail}
use Rattle.std.proofs.lemmas.List.Kept.{AllPairs-cons}
use Rattle.timers.specs.Slots.Waits.{Entry, class_at, Waits, in_class, by_class, at_slot, without, moved_last}

-- the element in the middle, and those round it
pub All-middle : {X : Type 0} (P : X → Type 0) (xs : List X) (y : X) (ys : List X) → All P (xs ++ y ∷ ys) →
    P y × All P (xs ++ ys)
All-middle P [] y ys h = (All-head P y ys h, All-tail P y ys h)
All-middle P (x ∷ xs) y ys h =
    let rest = All-middle P xs y ys (All-tail P x (xs ++ y ∷ ys) h) in
    (rest.0, All-cons P x (xs ++ ys) (All-head P x (xs ++ y ∷ ys) h) rest.1)

pub AllPairs-tail : {X : Type 0} (R : X → X → Type 0) (x : X) (xs : List X) → AllPairs R (x ∷ xs) →
    All (R x) xs × AllPairs R xs
AllPairs-tail R x xs h = (
  λ k d lt. h zero (suc k) d (omega arith) (omega arith),
  λ i j d lt jl. h (suc i) (suc j) d (omega arith) (omega arith),
)

-- how the element in the middle stands to those round it
pub AllPairs-middle : {X : Type 0} (R : X → X → Type 0) (xs : List X) (y : X) (ys : List X) → AllPairs R
    (xs ++ y ∷ ys) →
    All (λ x. R x y) xs × All (R y) ys × AllPairs R (xs ++ ys)
AllPairs-middle R [] y ys h = let t = AllPairs-tail R y ys h in (All-nil (λ x. R x y), t.0, t.1)
AllPairs-middle R (x ∷ xs) y ys h =
    let t = AllPairs-tail R x (xs ++ y ∷ ys) h in
    let m = All-middle (R x) xs y ys t.0 in
    let rest = AllPairs-middle R xs y ys t.1 in
    (All-cons (λ z. R z y) x xs m.0 rest.0, rest.1, AllPairs-cons R x (xs ++ ys) m.1 rest.2)

-- two entries have slots of their own
abbrev pub Differ : Entry → Entry → Type 0
Differ one other = one.slot ≢ other.slot

none_at : (slot : ℕ) (v : List Entry) → All (λ e. e.slot ≢ slot) v → (at_slot slot v ≡ []) × (without slot v ≡ v)
none_at slot [] h = (refl, refl)
none_at slot (e ∷ v) h =
    let first = All-head (λ e. e.slot ≢ slot) e v h in
    let rest = none_at slot v (All-tail (λ e. e.slot ≢ slot) e v h) in
    (rw (ne_eqb e.slot slot first) rest.0, rw (ne_eqb e.slot slot first) (ap (λ (w : List Entry). e ∷ w) rest.1))

turned : (e : Entry) (v : List Entry) → All (Differ e) v → All (λ o. o.slot ≢ e.slot) v
turned e v h k d lt same = h k d lt (sym same)

pub one_at : (before : List Entry) (e : Entry) (after : List Entry) → AllPairs Differ (before ++ e ∷ after) →
    at_slot e.slot (before ++ e ∷ after) ≡ e ∷ []
one_at before e after own =
    let m = AllPairs-middle Differ before e after own in
    let left = none_at e.slot before m.0 in
    let right = none_at e.slot after (turned e after m.1) in
    filter-append (λ o. o.slot == e.slot) before (e ∷ after)
    ∙ ap (λ (v : List Entry). v ++ at_slot e.slot (e ∷ after)) left.0
    ∙ rw (eq-eqb e.slot e.slot refl) (ap (λ (v : List Entry). e ∷ v) right.0)

pub others_at : (before : List Entry) (e : Entry) (after : List Entry) → AllPairs Differ (before ++ e ∷ after) →
    without e.slot (before ++ e ∷ after) ≡ before ++ after
others_at before e after own =
    let m = AllPairs-middle Differ before e after own in
    let left = none_at e.slot before m.0 in
    let right = none_at e.slot after (turned e after m.1) in
    filter-append (λ o. not (o.slot == e.slot)) before (e ∷ after)
    ∙ ap (λ (v : List Entry). v ++ without e.slot (e ∷ after)) left.1
    ∙ rw (eq-eqb e.slot e.slot refl) (ap (λ (v : List Entry). before ++ v) right.1)

pub moved_is : (change : Entry → Entry) (before : List Entry) (e : Entry) (after : List Entry) →
    AllPairs Differ (before ++ e ∷ after) →
    moved_last change e.slot (before ++ e ∷ after) ≡ (before ++ after) ++ change e ∷ []
moved_is change before e after own =
    ap₂ (λ (v w : List Entry). v ++ map change w) (others_at before e after own) (one_at before e after own)

-- the entry goes out of its class, and last into another, with another due
abbrev pub moved : List (List Entry) → List Entry → Entry → List Entry → ℕ → ℕ → List (List Entry)
moved classes before entry after class due =
    set (set classes entry.class (before ++ after)) class
    (class_at (set classes entry.class (before ++ after)) class ++ record entry { class = class; due = due } ∷ [])

pub at_class : (w : List Entry) (k : ℕ) → k < 7 → class_at (by_class w) k ≡ in_class k w
at_class w zero lt = refl
at_class w (suc zero) lt = refl
at_class w (suc (suc zero)) lt = refl
at_class w (suc (suc (suc zero))) lt = refl
at_class w (suc (suc (suc (suc zero)))) lt = refl
at_class w (suc (suc (suc (suc (suc zero))))) lt = refl
at_class w (suc (suc (suc (suc (suc (suc zero)))))) lt = refl
at_class w (suc (suc (suc (suc (suc (suc (suc k))))))) lt = absurd (omega arith)

in_class-cons_other : (k : ℕ) (e : Entry) (w : List Entry) → e.class ≢ k → in_class k (e ∷ w) ≡ in_class k w
in_class-cons_other k e w ne = rw (ne_eqb e.class k ne) refl

in_class-cons_same : (k : ℕ) (e : Entry) (w : List Entry) → e.class ≡ k → in_class k (e ∷ w) ≡ e ∷ in_class k w
in_class-cons_same k e w same = rw (eq-eqb e.class k same) refl

in_class-append : (k : ℕ) (v w : List Entry) → in_class k (v ++ w) ≡ in_class k v ++ in_class k w
in_class-append k v w = filter-append (λ e. e.class == k) v w

-- an entry of the plain list waits in its class
pub plain_waits : (before : List Entry) (e : Entry) (after : List Entry) → e.class < 7 →
    Waits (by_class (before ++ e ∷ after)) (in_class e.class before) e (in_class e.class after)
plain_waits before e after lt = record {
  within = lt;
  split = at_class (before ++ e ∷ after) e.class lt ∙ in_class-append e.class before (e ∷ after)
      ∙ ap (λ v. in_class e.class before ++ v) (in_class-cons_same e.class e after refl);
}

-- the classes without an entry
abbrev pub taken : List Entry → Entry → List Entry → List (List Entry)
taken before e after = set (by_class (before ++ e ∷ after)) e.class (in_class e.class before ++ in_class e.class after)

taken_at : (before : List Entry) (e : Entry) (after : List Entry) (k : ℕ) → e.class < 7 → k < 7 →
    class_at (taken before e after) k ≡ in_class k (before ++ after)
taken_at before e after k lt ltk =
    let v = in_class e.class before ++ in_class e.class after in
    let w = by_class (before ++ e ∷ after) in
    elim (cases_eq k e.class) [
      | inl same ↦ rw same (get_or-set_same w e.class v [] lt ∙ sym (in_class-append e.class before after))
      | inr ne ↦
          get_or-set_other w e.class k v [] ne ∙ at_class (before ++ e ∷ after) k ltk
          ∙ in_class-append k before (e ∷ after)
          ∙ ap (λ (r : List Entry). in_class k before ++ r) (in_class-cons_other k e after (λ s. ne (sym s)))
          ∙ sym (in_class-append k before after)
    ]

length-taken : (before : List Entry) (e : Entry) (after : List Entry) → length (taken before e after) ≡ 7
length-taken before e after =
    length-set (by_class (before ++ e ∷ after)) e.class (in_class e.class before ++ in_class e.class after)

-- without an entry the plain list is its classes without it
pub plain_taken : (before : List Entry) (e : Entry) (after : List Entry) → e.class < 7 →
    by_class (before ++ after) ≡ taken before e after
plain_taken before e after lt =
    same_lists (by_class (before ++ after)) (taken before e after) (sym (length-taken before e after))
    (λ k d h.
    get_or_default (by_class (before ++ after)) k d [] h ∙ at_class (before ++ after) k h
    ∙ sym (taken_at before e after k lt h)
    ∙ sym (get_or_default (taken before e after) k d [] (omega (arith, length-taken before e after))))

-- with an entry more, the plain list is its classes with the entry last in one
pub plain_put : (w : List Entry) (x : Entry) → x.class < 7 →
    by_class (w ++ x ∷ []) ≡ set (by_class w) x.class (class_at (by_class w) x.class ++ x ∷ [])
plain_put w x lt =
    let add = class_at (by_class w) x.class ++ x ∷ [] in
    let len : length (set (by_class w) x.class add) ≡ 7 = length-set (by_class w) x.class add in
    same_lists (by_class (w ++ x ∷ [])) (set (by_class w) x.class add) (sym len)
    (λ k d h.
    let ltk : k < 7 = h in
    let left : class_at (by_class (w ++ x ∷ [])) k ≡ in_class k w ++ in_class k (x ∷ []) =
    at_class (w ++ x ∷ []) k ltk ∙ in_class-append k w (x ∷ []) in
    get_or_default (by_class (w ++ x ∷ [])) k d [] h ∙ left
    ∙ elim (cases_eq k x.class) as (λ _. in_class k w ++ in_class k (x ∷ []) ≡ get_or
    (set (by_class w) x.class add) k d) [
      | inl same ↦
          ap (λ (v : List Entry). in_class k w ++ v) (in_class-cons_same k x [] (sym same))
          ∙ ap (λ (v : List Entry). v ++ x ∷ []) (sym (at_class w k ltk))
          ∙ ap (λ (j : ℕ). class_at (by_class w) j ++ x ∷ []) same
          ∙ sym (get_or-set_same (by_class w) x.class add d lt)
          ∙ ap (λ (j : ℕ). get_or (set (by_class w) x.class add) j d) (sym same)
      | inr ne ↦
          ap (λ (v : List Entry). in_class k w ++ v) (in_class-cons_other k x [] (λ s. ne (sym s)))
          ∙ append-nil (in_class k w) ∙ sym (at_class w k ltk) ∙ sym (get_or_default (by_class w) k d [] ltk)
          ∙ sym (get_or-set_other (by_class w) x.class k add d ne)
    ])

-- a move of the plain list is the move of its classes
pub plain_moved : (before : List Entry) (e : Entry) (after : List Entry) (class due : ℕ) → e.class < 7 → class < 7 →
    by_class ((before ++ after) ++ record e { class = class; due = due } ∷ [])
    ≡ moved (by_class (before ++ e ∷ after)) (in_class e.class before) e (in_class e.class after) class due
plain_moved before e after class due lt ltc =
    let x : Entry = record e { class = class; due = due } in
    plain_put (before ++ after) x ltc
    ∙ ap (λ (c : List (List Entry)). set c class (class_at c class ++ x ∷ [])) (plain_taken before e after lt)

-- a place in a class is a place in the plain list
pub record PlainPlace (k : ℕ) (w b : List Entry) (e : Entry) (a : List Entry) : Type 0 where
  pub left : List Entry
  pub right : List Entry
  pub is : w ≡ left ++ e ∷ right
  pub is_left : in_class k left ≡ b
  pub is_right : in_class k right ≡ a

pub class_place : (k : ℕ) (w b : List Entry) (e : Entry) (a : List Entry) → in_class k w ≡ b ++ e ∷ a →
    PlainPlace k w b e a
class_place k [] [] e a h = absurd (cc)
class_place k [] (x ∷ b) e a h = absurd (cc)
class_place k (y ∷ w) b e a h = elim (cases_eq y.class k) [
  | inl same ↦ by_here same (λ c g. class_place k w c e a g) b (sym (in_class-cons_same k y w same) ∙ h)
  | inr ne ↦
      let rest = class_place k w b e a (sym (in_class-cons_other k y w ne) ∙ h) in
      record {
        left = y ∷ rest.left;
        right = rest.right;
        is = ap (λ (l : List Entry). y ∷ l) rest.is;
        is_left = in_class-cons_other k y rest.left ne ∙ rest.is_left;
        is_right = rest.is_right;
      }
]
  where
    by_here : y.class ≡ k → ((c : List Entry) → in_class k w ≡ c ++ e ∷ a → PlainPlace k w c e a) → (b : List Entry) →
        y ∷ in_class k w ≡ b ++ e ∷ a → PlainPlace k (y ∷ w) b e a
    by_here class more [] g =
        let heads : y ≡ e = cc in
        let tails : in_class k w ≡ a = cc in
        record { left = []; right = w; is = ap (λ (x : Entry). x ∷ w) heads; is_left = refl; is_right = tails }
    by_here class more (x ∷ b) g =
        let heads : y ≡ x = cc in
        let tails : in_class k w ≡ b ++ e ∷ a = cc in
        let rest = more b tails in
        record {
          left = y ∷ rest.left;
          right = rest.right;
          is = ap (λ (l : List Entry). y ∷ l) rest.is;
          is_left = in_class-cons_same k y rest.left class
              ∙ ap₂ (λ (p : Entry) (l : List Entry). p ∷ l) heads rest.is_left;
          is_right = rest.is_right;
        }
