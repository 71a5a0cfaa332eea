-- Steps of the timers, by slot, as steps of the plain list, by key.
use Rattle.std.proofs.Common.{◌≡◌, ◌≢◌, ℕ, zero, suc, ◌<◌, ◌==◌, not, cond, Bool, true, false, List, [], ◌∷◌, ◌++◌}
use Rattle.std.proofs.Common.{length, map, filter, refl, sym, ap, ap₂, ◌∙◌, subst, arith, append-nil}
use Rattle.std.specs.Prelude.{Option, Some, None, All, AllPairs}
use Rattle.std.specs.List.{AllByRecursion, insert, remove}
use Rattle.std.proofs.lemmas.Bool.{eq-eqb, ne_eqb}
use Rattle.std.proofs.lemmas.List.{map-append}
use Rattle.std.proofs.lemmas.List.Elements.{All-head, All-tail}
use Rattle.timers.specs.declared.slots.timers.Key.{Key}
use Rattle.timers.specs.Slots.Waits.{Entry, Waiting, StandFor, IsLive}
use Rattle.timers.specs.Slots.Waits as plain
use Rattle.timers.specs.Slots.Laws.{LiveIsWaiting}
use Rattle.timers.specs.declared.keys.cells.Cell.{Cell}
use Rattle.timers.specs.Keys.Waits.{Wait, same_key, at_key, without, moved_last, begun}
use Rattle.timers.specs.Keys.Keyed.{Keyed, slot_at, Once, Rises, wait_of, cell_of, StandsFor, Steps, cell_at}
use Rattle.timers.specs.Keys.KeyLemmas.{same_key-is, same_key-sym}
use Rattle.timers.proofs.KeysLemmas.CellLemmas.{slot_at-none, slot_at-absent, slot_at-insert, slot_at-found}
use Rattle.timers.proofs.KeysLemmas.CellLemmas.{slot_at-remove}
use Rattle.timers.proofs.KeysLemmas.CellLemmas.{Rises-once}

-- ---- slots that differ

abbrev Apart : List Cell → Type 0
Apart [] = Unit {0}
Apart (c ∷ cells) = AllByRecursion (λ (d : Cell). c.slot ≢ d.slot) cells × Apart cells

apart-head : (s : ℕ) (es : List Entry) → All (λ (o : Entry). s ≢ o.slot) es
    → AllByRecursion (λ (d : Cell). s ≢ d.slot) (map cell_of es)
apart-head s [] h = tt
apart-head s (e ∷ es) h = (
  All-head (λ (o : Entry). s ≢ o.slot) e es h,
  apart-head s es (All-tail (λ (o : Entry). s ≢ o.slot) e es h),
)

apart-of : (es : List Entry) → AllPairs (λ (a b : Entry). a.slot ≢ b.slot) es → Apart (map cell_of es)
apart-of [] h = tt
apart-of (e ∷ es) h = (
  apart-head e.slot es (λ k d lt. h zero (suc k) d (omega arith) (omega arith)),
  apart-of es (λ i j d lt jl. h (suc i) (suc j) d (omega arith) (omega arith)),
)

slot-in : (cells : List Cell) (key : Key) (x s : ℕ) → slot_at cells key ≡ Some s
    → AllByRecursion (λ (d : Cell). x ≢ d.slot) cells → x ≢ s
slot-in [] key x s e h = absurd (cc)
slot-in (c ∷ cells) key x s e h =
    elim (same_key key c.key) as (λ b. cond b (Some c.slot) (slot_at cells key) ≡ Some s → x ≢ s) [
      | true ↦ λ f same. let is : c.slot ≡ s = cc in h.0 (same ∙ sym is)
      | false ↦ λ f. slot-in cells key x s f h.1
    ] e

-- of cells with one slot each, that of the key is the key's
rest-by : (cells : List Cell) (key : Key) (s : ℕ) → AllByRecursion (λ (c : Cell). same_key key c.key ≡ false) cells
    → AllByRecursion (λ (d : Cell). s ≢ d.slot) cells
    → AllByRecursion (λ (c : Cell). (c.slot == s) ≡ same_key key c.key) cells
rest-by [] key s k a = tt
rest-by (c ∷ cells) key s k a = (ne_eqb c.slot s (λ e. a.0 (sym e)) ∙ sym k.0, rest-by cells key s k.1 a.1)

by-slot : (cells : List Cell) (key : Key) (s : ℕ) → Once cells → Apart cells → slot_at cells key ≡ Some s
    → AllByRecursion (λ (c : Cell). (c.slot == s) ≡ same_key key c.key) cells
by-slot [] key s o a e = tt
by-slot (c ∷ cells) key s o a e =
    elim (same_key key c.key) as (λ b. same_key key c.key ≡ b → cond b (Some c.slot) (slot_at cells key) ≡ Some s
    → ((c.slot == s) ≡ same_key key c.key)
    × AllByRecursion (λ (d : Cell). (d.slot == s) ≡ same_key key d.key) cells) [
      | true ↦ λ k f.
          let is : c.slot ≡ s = cc in
          let key_is : key ≡ c.key = same_key-is key c.key k in (
            eq-eqb c.slot s is ∙ sym k,
            rest-by cells key s (slot_at-absent cells key (ap (slot_at cells) key_is ∙ o.0))
                (subst (λ z. AllByRecursion (λ (d : Cell). z ≢ d.slot) cells) is a.0),
          )
      | false ↦ λ k f. (ne_eqb c.slot s (slot-in cells key c.slot s f a.0) ∙ sym k, by-slot cells key s o.1 a.1 f)
    ] refl e

filter-cells : (p q : Cell → Bool) (es : List Entry) → AllByRecursion (λ (c : Cell). p c ≡ q c) (map cell_of es)
    → filter (λ (e : Entry). p (cell_of e)) es ≡ filter (λ (e : Entry). q (cell_of e)) es
filter-cells p q [] h = refl
filter-cells p q (e ∷ es) h = ap₂ (λ (b : Bool) (v : List Entry). cond b (e ∷ v) v) h.0 (filter-cells p q es h.1)

negated : (p q : Cell → Bool) (cells : List Cell) → AllByRecursion (λ (c : Cell). p c ≡ q c) cells
    → AllByRecursion (λ (c : Cell). not (p c) ≡ not (q c)) cells
negated p q [] h = tt
negated p q (c ∷ cells) h = (ap not h.0, negated p q cells h.1)

pub map-filter : {A B : Type 0} (f : A → B) (p : B → Bool) (xs : List A)
    → map f (filter (λ (x : A). p (f x)) xs) ≡ filter p (map f xs)
map-filter f p [] = refl
map-filter {A} {B} f p (x ∷ xs) =
    elim (p (f x)) as (λ b. map f (cond b (x ∷ filter (λ (y : A). p (f y)) xs) (filter (λ (y : A). p (f y)) xs))
    ≡ cond b (f x ∷ filter p (map f xs)) (filter p (map f xs))) [
      | true ↦ ap (λ (v : List B). f x ∷ v) (map-filter f p xs)
      | false ↦ map-filter f p xs
    ]

map-over : {A B : Type 0} (f : A → B) (g : A → A) (h : B → B) → ((x : A) → f (g x) ≡ h (f x)) → (xs : List A)
    → map f (map g xs) ≡ map h (map f xs)
map-over f g h e [] = refl
map-over {A} {B} f g h e (x ∷ xs) = ap₂ (λ (y : B) (ys : List B). y ∷ ys) (e x) (map-over f g h e xs)

map-id : {A : Type 0} (xs : List A) → map (λ (x : A). x) xs ≡ xs
map-id [] = refl
map-id {A} (x ∷ xs) = ap (λ (v : List A). x ∷ v) (map-id xs)

-- ---- what is found in parts of a list

abbrev first : Option ℕ → Option ℕ → Option ℕ
first (Some s) o = Some s
first None o = o

slot_at-append : (xs ys : List Cell) (key : Key) → slot_at (xs ++ ys) key ≡ first (slot_at xs key) (slot_at ys key)
slot_at-append [] ys key = refl
slot_at-append (c ∷ xs) ys key =
    ap (λ (o : Option ℕ). cond (same_key key c.key) (Some c.slot) o) (slot_at-append xs ys key)
    ∙ elim (same_key key c.key) as (λ b. cond b (Some c.slot) (first (slot_at xs key) (slot_at ys key))
    ≡ first (cond b (Some c.slot) (slot_at xs key)) (slot_at ys key)) [
      | true ↦ refl
      | false ↦ refl
    ]

abbrev others : Key → List Cell → List Cell
others k cells = filter (λ (c : Cell). not (same_key k c.key)) cells

abbrev own : Key → List Cell → List Cell
own k cells = filter (λ (c : Cell). same_key k c.key) cells

same-twice : (b : Bool) (o : Option ℕ) → o ≡ cond b o o
same-twice true o = refl
same-twice false o = refl

slot_at-others : (cells : List Cell) (k key : Key)
    → slot_at (others k cells) key ≡ cond (same_key k key) None (slot_at cells key)
slot_at-others [] k key = same-twice (same_key k key) None
slot_at-others (c ∷ cells) k key =
    elim (same_key k c.key) as (λ b. same_key k c.key ≡ b
    → slot_at (cond (not b) (c ∷ others k cells) (others k cells)) key
    ≡ cond (same_key k key) None (cond (same_key key c.key) (Some c.slot) (slot_at cells key))) [
      | true ↦ λ e.
          let is : k ≡ c.key = same_key-is k c.key e in
          slot_at-others cells k key
          ∙ elim (same_key k key) as (λ b. same_key k key ≡ b → cond b None (slot_at cells key)
          ≡ cond b None (cond (same_key key c.key) (Some c.slot) (slot_at cells key))) [
            | true ↦ λ f. refl
            | false ↦ λ f.
                let other : same_key key c.key ≡ false =
                same_key-sym key c.key ∙ ap (λ (z : Key). same_key z key) (sym is) ∙ f in
                rw other refl
          ] refl
      | false ↦ λ e.
          ap (λ (o : Option ℕ). cond (same_key key c.key) (Some c.slot) o) (slot_at-others cells k key)
          ∙ elim (same_key k key) as (λ b. same_key k key ≡ b
          → cond (same_key key c.key) (Some c.slot) (cond b None (slot_at cells key))
          ≡ cond b None (cond (same_key key c.key) (Some c.slot) (slot_at cells key))) [
            | true ↦ λ f.
                let is : k ≡ key = same_key-is k key f in
                let other : same_key key c.key ≡ false = ap (λ (z : Key). same_key z c.key) (sym is) ∙ e in
                rw other refl
            | false ↦ λ f. refl
          ] refl
    ] refl

slot_at-own : (cells : List Cell) (k key : Key)
    → slot_at (own k cells) key ≡ cond (same_key k key) (slot_at cells key) None
slot_at-own [] k key = same-twice (same_key k key) None
slot_at-own (c ∷ cells) k key =
    elim (same_key k c.key) as (λ b. same_key k c.key ≡ b
    → slot_at (cond b (c ∷ own k cells) (own k cells)) key
    ≡ cond (same_key k key) (cond (same_key key c.key) (Some c.slot) (slot_at cells key)) None) [
      | true ↦ λ e.
          let is : k ≡ c.key = same_key-is k c.key e in
          ap (λ (o : Option ℕ). cond (same_key key c.key) (Some c.slot) o) (slot_at-own cells k key)
          ∙ elim (same_key k key) as (λ b. same_key k key ≡ b
          → cond (same_key key c.key) (Some c.slot) (cond b (slot_at cells key) None)
          ≡ cond b (cond (same_key key c.key) (Some c.slot) (slot_at cells key)) None) [
            | true ↦ λ f. refl
            | false ↦ λ f.
                let other : same_key key c.key ≡ false =
                same_key-sym key c.key ∙ ap (λ (z : Key). same_key z key) (sym is) ∙ f in
                rw other refl
          ] refl
      | false ↦ λ e.
          slot_at-own cells k key
          ∙ elim (same_key k key) as (λ b. same_key k key ≡ b → cond b (slot_at cells key) None
          ≡ cond b (cond (same_key key c.key) (Some c.slot) (slot_at cells key)) None) [
            | true ↦ λ f.
                let is : k ≡ key = same_key-is k key f in
                let other : same_key key c.key ≡ false = ap (λ (z : Key). same_key z c.key) (sym is) ∙ e in
                rw other refl
            | false ↦ λ f. refl
          ] refl
    ] refl

slot_at-moved : (cells : List Cell) (k key : Key) → slot_at (others k cells ++ own k cells) key ≡ slot_at cells key
slot_at-moved cells k key =
    slot_at-append (others k cells) (own k cells) key
    ∙ ap₂ first (slot_at-others cells k key) (slot_at-own cells k key)
    ∙ elim (same_key k key) as (λ b. first (cond b None (slot_at cells key)) (cond b (slot_at cells key) None)
    ≡ slot_at cells key) [
      | true ↦ refl
      | false ↦ elim (slot_at cells key) as (λ o. first o None ≡ o) [ None ↦ refl | Some s ↦ refl ]
    ]

-- ---- each key once

All-part : (P : Cell → Type 0) (p : Cell → Bool) (cells : List Cell) → AllByRecursion P cells
    → AllByRecursion P (filter p cells)
All-part P p [] h = tt
All-part P p (c ∷ cells) h =
    elim (p c) as (λ b. AllByRecursion P (cond b (c ∷ filter p cells) (filter p cells))) [
      | true ↦ (h.0, All-part P p cells h.1)
      | false ↦ All-part P p cells h.1
    ]

All-passing : (p : Cell → Bool) (cells : List Cell) → AllByRecursion (λ (c : Cell). p c ≡ true) (filter p cells)
All-passing p [] = tt
All-passing p (c ∷ cells) =
    elim (p c) as (λ b. p c ≡ b
    → AllByRecursion (λ (d : Cell). p d ≡ true) (cond b (c ∷ filter p cells) (filter p cells))) [
      | true ↦ λ e. (e, All-passing p cells)
      | false ↦ λ e. All-passing p cells
    ] refl

Once-part : (p : Cell → Bool) (cells : List Cell) → Once cells → Once (filter p cells)
Once-part p [] h = tt
Once-part p (c ∷ cells) h =
    elim (p c) as (λ b. Once (cond b (c ∷ filter p cells) (filter p cells))) [
      | true ↦ (
        slot_at-none (filter p cells) c.key (All-part (λ (d : Cell). same_key c.key d.key ≡ false) p cells
            (slot_at-absent cells c.key h.0)),
        Once-part p cells h.1,
      )
      | false ↦ Once-part p cells h.1
    ]

Once-append : (xs ys : List Cell) → Once xs → Once ys → AllByRecursion (λ (x : Cell). slot_at ys x.key ≡ None) xs
    → Once (xs ++ ys)
Once-append [] ys h k a = k
Once-append (x ∷ xs) ys h k a = (
  slot_at-append xs ys x.key ∙ ap₂ first h.0 a.0,
  Once-append xs ys h.1 k a.1,
)

All-weak : (P Q : Cell → Type 0) → ((c : Cell) → P c → Q c) → (cells : List Cell) → AllByRecursion P cells
    → AllByRecursion Q cells
All-weak P Q f [] h = tt
All-weak P Q f (c ∷ cells) h = (f c h.0, All-weak P Q f cells h.1)

not-true : (b : Bool) → not b ≡ true → b ≡ false
not-true true e = absurd (cc)
not-true false e = refl

Once-moved : (cells : List Cell) (k : Key) → Once cells → Once (others k cells ++ own k cells)
Once-moved cells k h =
    Once-append (others k cells) (own k cells) (Once-part (λ (c : Cell). not (same_key k c.key)) cells h)
    (Once-part (λ (c : Cell). same_key k c.key) cells h)
    (All-weak (λ (c : Cell). not (same_key k c.key) ≡ true) (λ (c : Cell). slot_at (own k cells) c.key ≡ None)
    (λ c e. slot_at-own cells k c.key
    ∙ ap (λ (b : Bool). cond b (slot_at cells c.key) None) (not-true (same_key k c.key) e))
    (others k cells) (All-passing (λ (c : Cell). not (same_key k c.key)) cells))

Once-new : (cells : List Cell) (c : Cell) → Once cells → slot_at cells c.key ≡ None → Once (cells ++ c ∷ [])
Once-new cells c h n =
    Once-append cells (c ∷ []) h (refl, tt)
    (All-weak (λ (d : Cell). same_key c.key d.key ≡ false) (λ (d : Cell). slot_at (c ∷ []) d.key ≡ None)
    (λ d e. ap (λ (b : Bool). cond b (Some c.slot) None) (same_key-sym d.key c.key ∙ e))
    cells (slot_at-absent cells c.key n))

-- ---- the plain lists

absent-waits : (es : List Entry) (key : Key)
    → AllByRecursion (λ (c : Cell). same_key key c.key ≡ false) (map cell_of es)
    → (without key (map wait_of es) ≡ map wait_of es) × (at_key key (map wait_of es) ≡ [])
absent-waits [] key h = (refl, refl)
absent-waits (e ∷ es) key h =
    let rest = absent-waits es key h.1 in
    (rw h.0 (ap (λ (v : List Wait). wait_of e ∷ v) rest.0), rw h.0 rest.1)

-- ---- steps

abbrev keyed : Waiting → List Cell → ℕ → Keyed
keyed timing cells time = record { timing = timing; cells = cells; time = time }

-- a slot's entries are the key's
record Own (es : List Entry) (key : Key) (slot : ℕ) : Type 0 where
  rest : plain.without slot es ≡ filter (λ (e : Entry). not (same_key key e.key)) es
  it : plain.at_slot slot es ≡ filter (λ (e : Entry). same_key key e.key) es

own-of : (timing : Waiting) (es : List Entry) (key : Key) (slot : ℕ) → StandFor timing es → Once (map cell_of es)
    → slot_at (map cell_of es) key ≡ Some slot → Own es key slot
own-of timing es key slot st once at =
    let all = by-slot (map cell_of es) key slot once (apart-of es st.timed.distinct) at in
    record {
      rest = filter-cells (λ (c : Cell). not (c.slot == slot)) (λ (c : Cell). not (same_key key c.key)) es
          (negated (λ (c : Cell). c.slot == slot) (λ (c : Cell). same_key key c.key) (map cell_of es) all);
      it = filter-cells (λ (c : Cell). c.slot == slot) (λ (c : Cell). same_key key c.key) es all;
    }

-- a key is moved
pub move-step : (old new : Waiting) (cells : List Cell) (key : Key) (slot time later : ℕ) (by : Entry → Entry)
    (change : Wait → Wait) → ((e : Entry) → wait_of (by e) ≡ change (wait_of e))
    → ((e : Entry) → cell_of (by e) ≡ cell_of e)
    → slot_at cells key ≡ Some slot → plain.Steps old new (plain.moved_last by slot)
    → Steps (keyed old cells time) (keyed new cells later) (moved_last change key)
move-step old new cells key slot time later by change same stays at step waits st =
    let es = st.entries in
    let own_ = own-of old es key slot st.stands st.once (st.found key ∙ at) in
    let rest = filter (λ (e : Entry). not (same_key key e.key)) es in
    let it = filter (λ (e : Entry). same_key key e.key) es in
    let moved_is : plain.moved_last by slot es ≡ rest ++ map by it =
    ap₂ (λ (v w : List Entry). v ++ map by w) own_.rest own_.it in
    let cells_are : map cell_of (plain.moved_last by slot es)
    ≡ others key (map cell_of es) ++ own key (map cell_of es) =
    ap (map cell_of) moved_is ∙ map-append cell_of rest (map by it)
    ∙ ap₂ (λ (v w : List Cell). v ++ w) (map-filter cell_of (λ (c : Cell). not (same_key key c.key)) es)
    (map-over cell_of by (λ (c : Cell). c) stays it ∙ map-id (map cell_of it)
    ∙ map-filter cell_of (λ (c : Cell). same_key key c.key) es) in
    let waits_are : map wait_of (plain.moved_last by slot es) ≡ moved_last change key waits =
    ap (map wait_of) moved_is ∙ map-append wait_of rest (map by it)
    ∙ ap₂ (λ (v w : List Wait). v ++ w) (map-filter wait_of (λ (w : Wait). not (same_key key w.key)) es)
    (map-over wait_of by change same it ∙ ap (map change) (map-filter wait_of (λ (w : Wait). same_key key w.key) es))
    ∙ ap (moved_last change key) st.are in
    record {
      entries = plain.moved_last by slot es;
      stands = step es st.stands;
      once = subst Once (sym cells_are) (Once-moved (map cell_of es) key st.once);
      found = λ k. ap (λ (v : List Cell). slot_at v k) cells_are ∙ slot_at-moved (map cell_of es) key k ∙ st.found k;
      are = waits_are;
    }

-- a key that doesn't wait isn't moved
pub still-step : (timing : Waiting) (cells : List Cell) (key : Key) (time later : ℕ) (change : Wait → Wait)
    → slot_at cells key ≡ None → Steps (keyed timing cells time) (keyed timing cells later) (moved_last change key)
still-step timing cells key time later change n waits st =
    let gone = absent-waits st.entries key (slot_at-absent (map cell_of st.entries) key (st.found key ∙ n)) in
    record {
      entries = st.entries;
      stands = st.stands;
      once = st.once;
      found = st.found;
      are = sym (append-nil (map wait_of st.entries))
          ∙ ap₂ (λ (v w : List Wait). v ++ map change w) (sym gone.0) (sym gone.1)
          ∙ ap (moved_last change key) st.are;
    }

-- nor is it taken out
pub rest-step : (timing : Waiting) (cells : List Cell) (key : Key) (time later : ℕ) → slot_at cells key ≡ None
    → Steps (keyed timing cells time) (keyed timing cells later) (without key)
rest-step timing cells key time later n waits st =
    let gone = absent-waits st.entries key (slot_at-absent (map cell_of st.entries) key (st.found key ∙ n)) in
    record {
      entries = st.entries;
      stands = st.stands;
      once = st.once;
      found = st.found;
      are = sym gone.0 ∙ ap (without key) st.are;
    }

-- a key is taken out
pub take-step : (old new : Waiting) (cells : List Cell) (place time : ℕ) → Rises cells → place < length cells
    → plain.Steps old new (plain.without (cell_at cells place).slot)
    → Steps (keyed old cells time) (keyed new (remove cells place) time) (without (cell_at cells place).key)
take-step old new cells place time h lt step waits st =
    let es = st.entries in
    let cell = cell_at cells place in
    let once = Rises-once cells h in
    let at : slot_at (map cell_of es) cell.key ≡ Some cell.slot =
    st.found cell.key ∙ slot_at-found cells place once lt in
    let own_ = own-of old es cell.key cell.slot st.stands st.once at in
    let cells_are : map cell_of (plain.without cell.slot es) ≡ others cell.key (map cell_of es) =
    ap (map cell_of) own_.rest ∙ map-filter cell_of (λ (c : Cell). not (same_key cell.key c.key)) es in
    record {
      entries = plain.without cell.slot es;
      stands = step es st.stands;
      once = subst Once (sym cells_are) (Once-part (λ (c : Cell). not (same_key cell.key c.key)) (map cell_of es)
          st.once);
      found = λ k. ap (λ (v : List Cell). slot_at v k) cells_are ∙ slot_at-others (map cell_of es) cell.key k
          ∙ ap (λ (o : Option ℕ). cond (same_key cell.key k) None o) (st.found k)
          ∙ sym (slot_at-remove cells place k once lt);
      are = ap (map wait_of) own_.rest ∙ map-filter wait_of (λ (w : Wait). not (same_key cell.key w.key)) es
          ∙ ap (without cell.key) st.are;
    }

-- a new key is put in
pub put-step : (old new : Waiting) (cells : List Cell) (place slot time : ℕ) (key : Key) → slot_at cells key ≡ None
    → plain.Steps old new (plain.begun slot key)
    → Steps (keyed old cells time) (keyed new (insert cells place (record { key = key; slot = slot })) time) (begun key)
put-step old new cells place slot time key n step waits st =
    let es = st.entries in
    let cell : Cell = record { key = key; slot = slot } in
    let entry : Entry = record { slot = slot; key = key; class = 0; due = 0 } in
    let none : slot_at (map cell_of es) key ≡ None = st.found key ∙ n in
    let gone = absent-waits es key (slot_at-absent (map cell_of es) key none) in
    let cells_are : map cell_of (es ++ entry ∷ []) ≡ map cell_of es ++ cell ∷ [] =
    map-append cell_of es (entry ∷ []) in
    record {
      entries = es ++ entry ∷ [];
      stands = step es st.stands;
      once = subst Once (sym cells_are) (Once-new (map cell_of es) cell st.once none);
      found = λ k. ap (λ (v : List Cell). slot_at v k) cells_are ∙ slot_at-append (map cell_of es) (cell ∷ []) k
          ∙ ap (λ (o : Option ℕ). first o (cond (same_key k key) (Some slot) None)) (st.found k)
          ∙ joined k (same_key k key) refl
          ∙ sym (slot_at-insert cells place cell k n);
      are = map-append wait_of es (entry ∷ []) ∙ ap (λ (v : List Wait). v ++ wait_of entry ∷ []) (sym gone.0)
          ∙ ap (begun key) st.are;
    }
  where
    joined : (k : Key) (b : Bool) → same_key k key ≡ b
        → first (slot_at cells k) (cond b (Some slot) None) ≡ cond b (Some slot) (slot_at cells k)
    joined k true e = ap (λ (o : Option ℕ). first o (Some slot)) (ap (slot_at cells) (same_key-is k key e) ∙ n)
    joined k false e = elim (slot_at cells k) as (λ o. first o None ≡ o) [ None ↦ refl | Some s ↦ refl ]

-- the slot of a key is live
record Split (es : List Entry) (slot : ℕ) : Type 0 where
  before : List Entry
  entry : Entry
  after : List Entry
  is : es ≡ before ++ entry ∷ after
  has : entry.slot ≡ slot

split-of : (es : List Entry) (key : Key) (slot : ℕ) → slot_at (map cell_of es) key ≡ Some slot → Split es slot
split-of [] key slot e = absurd (cc)
split-of (x ∷ es) key slot e =
    elim (same_key key x.key) as (λ b. cond b (Some x.slot) (slot_at (map cell_of es) key) ≡ Some slot
    → Split (x ∷ es) slot) [
      | true ↦ λ f. record { before = []; entry = x; after = es; is = refl; has = cc }
      | false ↦ λ f.
          let rest = split-of es key slot f in
          record {
            before = x ∷ rest.before;
            entry = rest.entry;
            after = rest.after;
            is = ap (λ (v : List Entry). x ∷ v) rest.is;
            has = rest.has;
          }
    ] e

pub live-of : (timing : Waiting) (cells : List Cell) (time slot : ℕ) (key : Key) (waits : List Wait) → LiveIsWaiting
    → StandsFor (keyed timing cells time) waits → slot_at cells key ≡ Some slot → IsLive timing slot
live-of timing cells time slot key waits law st at =
    let s = split-of st.entries key slot (st.found key ∙ at) in
    subst (IsLive timing) s.has
    (law.live timing s.before s.entry s.after (subst (StandFor timing) s.is st.stands))

-- taken out twice
pub without-twice : (key : Key) (waits : List Wait) → without key (without key waits) ≡ without key waits
without-twice key [] = refl
without-twice key (w ∷ waits) =
    elim (same_key key w.key) as (λ b. same_key key w.key ≡ b
    → without key (cond (not b) (w ∷ without key waits) (without key waits))
    ≡ cond (not b) (w ∷ without key waits) (without key waits)) [
      | true ↦ λ e. without-twice key waits
      | false ↦ λ e. rw e (ap (λ (v : List Wait). w ∷ v) (without-twice key waits))
    ] refl

-- a key that doesn't wait isn't in the list
pub absent-list : (k : Keyed) (waits : List Wait) (key : Key) → StandsFor k waits → slot_at k.cells key ≡ None
    → without key waits ≡ waits
absent-list k waits key st n =
    let gone = absent-waits st.entries key (slot_at-absent (map cell_of st.entries) key (st.found key ∙ n)) in
    ap (without key) (sym st.are) ∙ gone.0 ∙ st.are
