-- What a pass over the keys that were touched leaves.
use Rattle.std.proofs.Common.{◌≡◌, ℕ, zero, suc, ◌+◌, ◌<◌, ◌≤◌, ◌==◌, ◌||◌, ◌&&◌, not, cond, Bool, true, false}
use Rattle.std.proofs.Common.{List, [], ◌∷◌, ◌++◌, map, filter, length, take, drop, refl, sym, ap, ap₂, ◌∙◌, subst}
use Rattle.std.proofs.Common.{arith}
use Rattle.std.proofs.Common.{append-nil, append_assoc, length-append}
use Rattle.std.specs.Prelude.{Option, Some, None, is_some, slice_get}
use Rattle.std.specs.List.{AllByRecursion, remove}
use Rattle.std.proofs.lemmas.Bool.Decides.{nat_tests}
use Rattle.std.proofs.lemmas.List.{take-append-drop}
use Rattle.std.proofs.lemmas.List.Elements.{filter-append}
use Rattle.timers.specs.declared.slots.timers.Key.{Key}
use Rattle.timers.specs.Slots.Waits.{Entry}
use Rattle.timers.specs.declared.keys.cells.Cell.{Cell}
use Rattle.timers.specs.Keys.Waits.{Wait, same_key, without}
use Rattle.timers.specs.Keys.KeyLemmas.{same_key-is, same_key-refl}
use Rattle.timers.specs.Keys.Keyed.{Keyed, StandsFor, Rises, is_before, slot_at, cell_at, keys_in, IsPlace, wait_of}
use Rattle.timers.specs.Keys.Keyed.{cell_of}
use Rattle.record_batch.specs.Fact.{Fact}
use Rattle.rm_protocol.specs.Waiting.{is_waiting}
use Rattle.rm_sides.specs.declared.ranges.range.Range.{Range}
use Rattle.node_waits.specs.declared.keys.touched.Touched.{Touched}
use Rattle.node_waits.specs.Keys.Settled.{first_key, first_number, has_number, is_kept, is_within, settled}
use Rattle.node_waits.specs.Keys.Settled.{settled_cells}
use Rattle.node_waits.specs.Keys.Settled.{own_of}

-- ---- the cells

-- the pass has been over some first cells
pub record Passed (r : List Fact) (t : Touched) (old cells : List Cell) (place : ℕ) : Type 0 where
  pub front : List Cell
  pub back : List Cell
  pub was : old ≡ front ++ back
  pub now : cells ≡ settled_cells r t front ++ back
  pub at : place ≡ length (settled_cells r t front)
  pub later : AllByRecursion (λ (c : Cell). is_before c.key (first_key t) ≡ false) back
  pub rises : Rises back

-- a key in front of the first of them is none of them
early-by : (s : ℕ) (o : Option Range) (k : Key) → is_before k (record { seq = s; number = first_number o }) ≡ true
    → ((k.seq == s) && has_number o k.number) ≡ false
early-by s None k h = grind (arith, nat_tests, h)
early-by s (Some range) k h = grind (arith, nat_tests, h)

early-other : (t : Touched) (k : Key) → is_before k (first_key t) ≡ true → is_within t k ≡ false
early-other t k h = early-by t.seq t.numbers k h

all-kept : (r : List Fact) (t : Touched) (cells : List Cell)
    → AllByRecursion (λ (c : Cell). is_within t c.key ≡ false) cells → settled_cells r t cells ≡ cells
all-kept r t [] h = refl
all-kept r t (c ∷ cells) h = rw h.0 (ap (λ (v : List Cell). c ∷ v) (all-kept r t cells h.1))

front-other : (t : Touched) (place : ℕ) (cells : List Cell)
    → ((k : ℕ) → k < place → is_before (cell_at cells k).key (first_key t) ≡ true)
    → place ≤ length cells → AllByRecursion (λ (c : Cell). is_within t c.key ≡ false) (take place cells)
front-other t zero cells h le = tt
front-other t (suc place) [] h le = absurd (omega arith)
front-other t (suc place) (c ∷ cells) h le = (
  early-other t c.key (h zero (omega arith)),
  front-other t place cells (λ k lt. h (suc k) (omega arith)) (omega arith),
)

back-later : (t : Touched) (place : ℕ) (cells : List Cell)
    → ((k : ℕ) → place ≤ k → k < length cells → is_before (cell_at cells k).key (first_key t) ≡ false)
    → AllByRecursion (λ (c : Cell). is_before c.key (first_key t) ≡ false) (drop place cells)
back-later t zero [] h = tt
back-later t zero (c ∷ cells) h =
    (h zero (omega arith) (omega arith), back-later t zero cells (λ k le lt. h (suc k) (omega arith) (omega arith)))
back-later t (suc place) [] h = tt
back-later t (suc place) (c ∷ cells) h = back-later t place cells (λ k le lt. h (suc k) (omega arith) (omega arith))

back-rises : (place : ℕ) (cells : List Cell) → Rises cells → Rises (drop place cells)
back-rises zero cells h = h
back-rises (suc place) [] h = tt
back-rises (suc place) (c ∷ cells) h = back-rises place cells h.1

taken-length : (place : ℕ) (cells : List Cell) → place ≤ length cells → place ≡ length (take place cells)
taken-length zero cells le = refl
taken-length (suc place) [] le = absurd (omega arith)
taken-length (suc place) (c ∷ cells) le = ap suc (taken-length place cells (omega arith))

pub pass-begins : (r : List Fact) (t : Touched) (place : ℕ) (cells : List Cell)
    → IsPlace cells (first_key t) place → Rises cells → Passed r t cells cells place
pass-begins r t place cells p h =
    let whole = all-kept r t (take place cells) (front-other t place cells p.before p.within) in
    record {
      front = take place cells;
      back = drop place cells;
      was = sym (take-append-drop place cells);
      now = sym (take-append-drop place cells) ∙ ap (λ (v : List Cell). v ++ drop place cells) (sym whole);
      at = taken-length place cells p.within ∙ ap length (sym whole);
      later = back-later t place cells p.after;
      rises = back-rises place cells h;
    }

-- the cell behind those that were passed
got-behind : (xs ys : List Cell) → slice_get (keys_in (xs ++ ys)) (length xs) ≡ slice_get (keys_in ys) 0
got-behind [] ys = refl
got-behind (x ∷ xs) ys = got-behind xs ys

-- one cell more was passed
record Next (back : List Cell) (key : Key) : Type 0 where
  cell : Cell
  rest : List Cell
  is : back ≡ cell ∷ rest
  key_is : cell.key ≡ key

next-of : (back : List Cell) (key : Key) → slice_get (keys_in back) 0 ≡ Some key → Next back key
next-of [] key e = absurd (cc)
next-of (c ∷ back) key e = record { cell = c; rest = back; is = refl; key_is = cc }

seen-next : (r : List Fact) (t : Touched) (place : ℕ) (old cells : List Cell) (key : Key)
    (p : Passed r t old cells place) → slice_get (keys_in cells) place ≡ Some key → Next p.back key
seen-next r t place old cells key p e =
    next-of p.back key
    (sym (got-behind (settled_cells r t p.front) p.back)
    ∙ ap₂ (λ (v : List Cell) (i : ℕ). slice_get (keys_in v) i) (sym p.now) (sym p.at) ∙ e)

own-is : (t : Touched) (o : Option Key) (key : Key) → own_of t o ≡ Some key → (o ≡ Some key) × (is_within t key ≡ true)
own-is t None key e = absurd (cc)
own-is t (Some k) key e =
    elim (is_within t k) as (λ b. is_within t k ≡ b → cond b (Some k) None ≡ Some key
    → (Some k ≡ Some key) × (is_within t key ≡ true)) [
      | true ↦ λ d f. let is : k ≡ key = cc in (f, ap (is_within t) (sym is) ∙ d)
      | false ↦ λ d f. absurd (cc)
    ] refl e

-- a key that waits stays
pub pass-keeps : (r : List Fact) (t : Touched) (place : ℕ) (old cells : List Cell) (key : Key)
    → Passed r t old cells place → own_of t (slice_get (keys_in cells) place) ≡ Some key → is_waiting r key ≡ true
    → Passed r t old cells (place + 1)
pass-keeps r t place old cells key p e w =
    let own = own-is t (slice_get (keys_in cells) place) key e in
    let n = seen-next r t place old cells key p own.0 in
    let keeps : is_kept r t n.cell.key ≡ true =
    ap (is_kept r t) n.key_is ∙ ap (λ (b : Bool). not (is_within t key) || b) w
    ∙ elim (is_within t key) as (λ b. not b || true ≡ true) [ true ↦ refl | false ↦ refl ] in
    let longer : settled_cells r t (p.front ++ n.cell ∷ []) ≡ settled_cells r t p.front ++ n.cell ∷ [] =
    filter-append (λ (c : Cell). is_kept r t c.key) p.front (n.cell ∷ [])
    ∙ ap (λ (b : Bool). settled_cells r t p.front ++ cond b (n.cell ∷ []) []) keeps in
    let later = subst (AllByRecursion (λ (c : Cell). is_before c.key (first_key t) ≡ false)) n.is p.later in
    record {
      front = p.front ++ n.cell ∷ [];
      back = n.rest;
      was = p.was ∙ ap (λ (v : List Cell). p.front ++ v) n.is ∙ sym (append_assoc p.front (n.cell ∷ []) n.rest);
      now = p.now ∙ ap (λ (v : List Cell). settled_cells r t p.front ++ v) n.is
          ∙ sym (append_assoc (settled_cells r t p.front) (n.cell ∷ []) n.rest)
          ∙ ap (λ (v : List Cell). v ++ n.rest) (sym longer);
      at = ap (λ (i : ℕ). i + 1) p.at ∙ sym (length-append (settled_cells r t p.front) (n.cell ∷ []))
          ∙ ap length (sym longer);
      later = later.1;
      rises = (subst Rises n.is p.rises).1;
    }

removed-behind : (xs : List Cell) (c : Cell) (ys : List Cell) → remove (xs ++ c ∷ ys) (length xs) ≡ xs ++ ys
removed-behind [] c ys = refl
removed-behind (x ∷ xs) c ys = ap (λ (v : List Cell). x ∷ v) (removed-behind xs c ys)

-- one that doesn't is taken out
pub pass-takes : (r : List Fact) (t : Touched) (place : ℕ) (old cells newer : List Cell) (key : Key)
    → Passed r t old cells place → own_of t (slice_get (keys_in cells) place) ≡ Some key → is_waiting r key ≡ false
    → newer ≡ remove cells place → Passed r t old newer place
pass-takes r t place old cells newer key p e w out =
    let own = own-is t (slice_get (keys_in cells) place) key e in
    let n = seen-next r t place old cells key p own.0 in
    let gone : is_kept r t n.cell.key ≡ false =
    ap (is_kept r t) n.key_is ∙ ap₂ (λ (a b : Bool). not a || b) own.1 w in
    let same : settled_cells r t (p.front ++ n.cell ∷ []) ≡ settled_cells r t p.front =
    filter-append (λ (c : Cell). is_kept r t c.key) p.front (n.cell ∷ [])
    ∙ ap (λ (b : Bool). settled_cells r t p.front ++ cond b (n.cell ∷ []) []) gone
    ∙ append-nil (settled_cells r t p.front) in
    let later = subst (AllByRecursion (λ (c : Cell). is_before c.key (first_key t) ≡ false)) n.is p.later in
    record {
      front = p.front ++ n.cell ∷ [];
      back = n.rest;
      was = p.was ∙ ap (λ (v : List Cell). p.front ++ v) n.is ∙ sym (append_assoc p.front (n.cell ∷ []) n.rest);
      now = out ∙ ap₂ (λ (v : List Cell) (i : ℕ). remove v i)
          (p.now ∙ ap (λ (v : List Cell). settled_cells r t p.front ++ v) n.is) p.at
          ∙ removed-behind (settled_cells r t p.front) n.cell n.rest
          ∙ ap (λ (v : List Cell). v ++ n.rest) (sym same);
      at = p.at ∙ ap length (sym same);
      later = later.1;
      rises = (subst Rises n.is p.rises).1;
    }

-- the place is one of the cells
pub place-within : (r : List Fact) (t : Touched) (place : ℕ) (old cells : List Cell) (key : Key)
    → Passed r t old cells place → own_of t (slice_get (keys_in cells) place) ≡ Some key
    → (place < length cells) × ((cell_at cells place).key ≡ key)
place-within r t place old cells key p e = there cells place (own-is t (slice_get (keys_in cells) place) key e).0
  where
    there : (v : List Cell) (i : ℕ) → slice_get (keys_in v) i ≡ Some key → (i < length v) × ((cell_at v i).key ≡ key)
    there [] i h = absurd (cc)
    there (c ∷ v) zero h = (omega arith, cc)
    there (c ∷ v) (suc i) h = let rest = there v i h in (omega (arith, rest.0), rest.1)

-- behind a key that comes after all of them there is none of them
behind-by : (s : ℕ) (o : Option Range) (a b : Key)
    → is_before a (record { seq = s; number = first_number o }) ≡ false
    → ((a.seq == s) && has_number o a.number) ≡ false → is_before a b ≡ true
    → ((b.seq == s) && has_number o b.number) ≡ false
behind-by s None a b h e k = grind (arith, nat_tests, h, e, k)
behind-by s (Some range) a b h e k = grind (arith, nat_tests, h, e, k)

all-behind : (t : Touched) (a : Key) → is_before a (first_key t) ≡ false → is_within t a ≡ false → (cells : List Cell)
    → AllByRecursion (λ (d : Cell). is_before a d.key ≡ true) cells
    → AllByRecursion (λ (c : Cell). is_within t c.key ≡ false) cells
all-behind t a h e [] k = tt
all-behind t a h e (c ∷ cells) k =
    (behind-by t.seq t.numbers a c.key h e k.0, all-behind t a h e cells k.1)

own-none : (t : Touched) (k : Key) → own_of t (Some k) ≡ None → is_within t k ≡ false
own-none t k e = elim (is_within t k) as (λ b. cond b (Some k) None ≡ None → b ≡ false) [
  | true ↦ λ f. absurd (cc)
  | false ↦ λ f. refl
] e

rest-other : (t : Touched) (back : List Cell)
    → AllByRecursion (λ (c : Cell). is_before c.key (first_key t) ≡ false) back → Rises back
    → own_of t (slice_get (keys_in back) 0) ≡ None
    → AllByRecursion (λ (c : Cell). is_within t c.key ≡ false) back
rest-other t [] l h e = tt
rest-other t (c ∷ back) l h e =
    let other = own-none t c.key e in
    (other, all-behind t c.key l.0 other back h.0)

pub pass-ends : (r : List Fact) (t : Touched) (place : ℕ) (old cells : List Cell) → Passed r t old cells place
    → own_of t (slice_get (keys_in cells) place) ≡ None → cells ≡ settled_cells r t old
pass-ends r t place old cells p e =
    let front = settled_cells r t p.front in
    let none : own_of t (slice_get (keys_in p.back) 0) ≡ None =
    ap (own_of t) (sym (got-behind front p.back)
    ∙ ap₂ (λ (v : List Cell) (i : ℕ). slice_get (keys_in v) i) (sym p.now) (sym p.at)) ∙ e in
    p.now
    ∙ ap (λ (v : List Cell). front ++ v) (sym (all-kept r t p.back (rest-other t p.back p.later p.rises none)))
    ∙ sym (filter-append (λ (c : Cell). is_kept r t c.key) p.front p.back)
    ∙ ap (settled_cells r t) (sym p.was)

-- ---- the plain list: those that have a cell

abbrev pub with_cells : List Cell → List Wait → List Wait
with_cells cells waits = filter (λ (w : Wait). is_some (slot_at cells w.key)) waits

All-weak : {A : Type 0} (P Q : A → Type 0) → ((x : A) → P x → Q x) → (xs : List A) → AllByRecursion P xs
    → AllByRecursion Q xs
All-weak P Q f [] h = tt
All-weak P Q f (x ∷ xs) h = (f x h.0, All-weak P Q f xs h.1)

some-later : (c d : Cell) (cells : List Cell) → is_some (slot_at cells d.key) ≡ true
    → is_some (slot_at (c ∷ cells) d.key) ≡ true
some-later c d cells h =
    elim (same_key d.key c.key) as (λ b. is_some (cond b (Some c.slot) (slot_at cells d.key)) ≡ true) [
      | true ↦ refl
      | false ↦ h
    ]

each-found : (cells : List Cell) → AllByRecursion (λ (d : Cell). is_some (slot_at cells d.key) ≡ true) cells
each-found [] = tt
each-found (c ∷ cells) = (
  ap (λ (b : Bool). is_some (cond b (Some c.slot) (slot_at cells c.key))) (same_key-refl c.key),
  All-weak (λ (d : Cell). is_some (slot_at cells d.key) ≡ true)
      (λ (d : Cell). is_some (slot_at (c ∷ cells) d.key) ≡ true)
      (λ d h. some-later c d cells h) cells (each-found cells),
)

each-of : (P : Key → Type 0) (es : List Entry) → AllByRecursion (λ (d : Cell). P d.key) (map cell_of es)
    → AllByRecursion (λ (w : Wait). P w.key) (map wait_of es)
each-of P [] h = tt
each-of P (e ∷ es) h = (h.0, each-of P es h.1)

pub each-there : (k : Keyed) (waits : List Wait) → StandsFor k waits
    → AllByRecursion (λ (w : Wait). is_some (slot_at k.cells w.key) ≡ true) waits
each-there k waits st =
    subst (AllByRecursion (λ (w : Wait). is_some (slot_at k.cells w.key) ≡ true)) st.are
    (each-of (λ (key : Key). is_some (slot_at k.cells key) ≡ true) st.entries
    (All-weak (λ (d : Cell). is_some (slot_at (map cell_of st.entries) d.key) ≡ true)
    (λ (d : Cell). is_some (slot_at k.cells d.key) ≡ true)
    (λ d h. ap is_some (sym (st.found d.key)) ∙ h) (map cell_of st.entries) (each-found (map cell_of st.entries))))

all-there : (cells : List Cell) (waits : List Wait)
    → AllByRecursion (λ (w : Wait). is_some (slot_at cells w.key) ≡ true) waits → with_cells cells waits ≡ waits
all-there cells [] h = refl
all-there cells (w ∷ waits) h = rw h.0 (ap (λ (v : List Wait). w ∷ v) (all-there cells waits h.1))

pub begins-with : (k : Keyed) (waits : List Wait) → StandsFor k waits → StandsFor k (with_cells k.cells waits)
begins-with k waits st = subst (StandsFor k) (sym (all-there k.cells waits (each-there k waits st))) st

-- without one of them
pub without-one : (cells newer : List Cell) (key : Key) (waits : List Wait)
    → ((o : Key) → slot_at newer o ≡ cond (same_key key o) None (slot_at cells o))
    → without key (with_cells cells waits) ≡ with_cells newer waits
without-one cells newer key [] h = refl
without-one cells newer key (w ∷ waits) h =
    let rest = without-one cells newer key waits h in
    let here : is_some (slot_at newer w.key) ≡ (is_some (slot_at cells w.key) && not (same_key key w.key)) =
    ap is_some (h w.key)
    ∙ elim (same_key key w.key) as (λ b. is_some (cond b None (slot_at cells w.key))
    ≡ (is_some (slot_at cells w.key) && not b)) [
      | true ↦ elim (is_some (slot_at cells w.key)) as (λ x. false ≡ (x && false)) [ true ↦ refl | false ↦ refl ]
      | false ↦ elim (is_some (slot_at cells w.key)) as (λ x. x ≡ (x && true)) [ true ↦ refl | false ↦ refl ]
    ] in
    elim (is_some (slot_at cells w.key)) as (λ x. is_some (slot_at newer w.key) ≡ (x && not (same_key key w.key))
    → without key (cond x (w ∷ with_cells cells waits) (with_cells cells waits))
    ≡ cond (is_some (slot_at newer w.key)) (w ∷ with_cells newer waits) (with_cells newer waits)) [
      | true ↦ λ e. rw e (ap (λ (v : List Wait). cond (not (same_key key w.key)) (w ∷ v) v) rest)
      | false ↦ λ e. rw e rest
    ] here

slot-settled : (r : List Fact) (t : Touched) (cells : List Cell) (key : Key)
    → slot_at (settled_cells r t cells) key ≡ cond (is_kept r t key) (slot_at cells key) None
slot-settled r t [] key =
    elim (is_kept r t key) as (λ b. no-slot ≡ cond b no-slot no-slot) [ true ↦ refl | false ↦ refl ]
  where
    no-slot : Option ℕ
    no-slot = None
slot-settled r t (c ∷ cells) key =
    elim (same_key key c.key) as (λ b. same_key key c.key ≡ b
    → slot_at (cond (is_kept r t c.key) (c ∷ settled_cells r t cells) (settled_cells r t cells)) key
    ≡ cond (is_kept r t key) (cond b (Some c.slot) (slot_at cells key)) None) [
      | true ↦ λ e.
          let is : key ≡ c.key = same_key-is key c.key e in
          rw (ap (is_kept r t) (sym is)) (elim (is_kept r t key) as (λ x. is_kept r t key ≡ x
          → slot_at (cond x (c ∷ settled_cells r t cells) (settled_cells r t cells)) key ≡ cond x (Some c.slot) None) [
            | true ↦ λ f. rw e refl
            | false ↦ λ f. slot-settled r t cells key ∙ ap (λ (b : Bool). cond b (slot_at cells key) None) f
          ] refl)
      | false ↦ λ e. elim (is_kept r t c.key) as (λ x.
          slot_at (cond x (c ∷ settled_cells r t cells) (settled_cells r t cells)) key
          ≡ cond (is_kept r t key) (slot_at cells key) None) [
            | true ↦ rw e (slot-settled r t cells key)
            | false ↦ slot-settled r t cells key
          ]
    ] refl

pub ends-with : (r : List Fact) (t : Touched) (cells : List Cell) (waits : List Wait)
    → AllByRecursion (λ (w : Wait). is_some (slot_at cells w.key) ≡ true) waits
    → with_cells (settled_cells r t cells) waits ≡ settled r t waits
ends-with r t cells [] h = refl
ends-with r t cells (w ∷ waits) h =
    let here : is_some (slot_at (settled_cells r t cells) w.key) ≡ is_kept r t w.key =
    ap is_some (slot-settled r t cells w.key)
    ∙ elim (is_kept r t w.key) as (λ b. is_some (cond b (slot_at cells w.key) None) ≡ b)
    [ true ↦ h.0 | false ↦ refl ] in
    ap₂ (λ (b : Bool) (v : List Wait). cond b (w ∷ v) v) here (ends-with r t cells waits h.1)
