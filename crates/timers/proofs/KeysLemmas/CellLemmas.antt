-- Slots of keys that rise: what is found, put in and taken out.
use Rattle.std.proofs.Common.{◌≡◌, ℕ, zero, suc, ◌<◌, ◌≤◌, cond, true, false, List, [], ◌∷◌}
use Rattle.std.proofs.Common.{length, refl, sym, ap, ◌∙◌, arith, inl, inr}
use Rattle.std.specs.Prelude.{Option, Some, None}
use Rattle.std.specs.List.{AllByRecursion, insert, remove}
use Rattle.std.proofs.lemmas.Bool.{cases_lt, cases_eq}
use Rattle.timers.specs.declared.slots.timers.Key.{Key}
use Rattle.timers.specs.declared.keys.cells.Cell.{Cell}
use Rattle.timers.specs.Keys.Waits.{same_key}
use Rattle.timers.specs.Keys.Keyed.{is_before, slot_at, Once, Rises, cell_at, IsPlace, IsGap}
use Rattle.timers.specs.Keys.KeyLemmas.{same_key-is, same_key-refl, same_key-sym, before-trans, before-other}
use Rattle.timers.specs.Keys.KeyLemmas.{before-apart, before-total}

pub All-at : (P : Cell → Type 0) (cells : List Cell) (k : ℕ) → AllByRecursion P cells → k < length cells
    → P (cell_at cells k)
All-at P [] k h lt = absurd (omega arith)
All-at P (c ∷ cells) zero h lt = h.0
All-at P (c ∷ cells) (suc k) h lt = All-at P cells k h.1 (omega arith)

pub All-from_at : (P : Cell → Type 0) (cells : List Cell) → ((k : ℕ) → k < length cells → P (cell_at cells k))
    → AllByRecursion P cells
All-from_at P [] h = tt
All-from_at P (c ∷ cells) h = (h zero (omega arith), All-from_at P cells (λ k lt. h (suc k) (omega arith)))

pub Rises-at : (cells : List Cell) (i j : ℕ) → Rises cells → i < j → j < length cells
    → is_before (cell_at cells i).key (cell_at cells j).key ≡ true
Rises-at [] i j h lt le = absurd (omega arith)
Rises-at (c ∷ cells) i zero h lt le = absurd (omega arith)
Rises-at (c ∷ cells) zero (suc j) h lt le =
    All-at (λ (d : Cell). is_before c.key d.key ≡ true) cells j h.0 (omega arith)
Rises-at (c ∷ cells) (suc i) (suc j) h lt le = Rises-at cells i j h.1 (omega arith) (omega arith)

pub slot_at-none : (cells : List Cell) (key : Key)
    → AllByRecursion (λ (c : Cell). same_key key c.key ≡ false) cells → slot_at cells key ≡ None
slot_at-none [] key h = refl
slot_at-none (c ∷ cells) key h = rw h.0 (slot_at-none cells key h.1)

pub slot_at-absent : (cells : List Cell) (key : Key) → slot_at cells key ≡ None
    → AllByRecursion (λ (c : Cell). same_key key c.key ≡ false) cells
slot_at-absent [] key h = tt
slot_at-absent (c ∷ cells) key h =
    elim (same_key key c.key) as (λ b. same_key key c.key ≡ b → cond b (Some c.slot) (slot_at cells key) ≡ None
    → (same_key key c.key ≡ false) × AllByRecursion (λ (d : Cell). same_key key d.key ≡ false) cells) [
      | true ↦ λ e n. absurd (cc)
      | false ↦ λ e n. (e, slot_at-absent cells key n)
    ] refl h

All-weak : (P Q : Cell → Type 0) → ((c : Cell) → P c → Q c) → (cells : List Cell) → AllByRecursion P cells
    → AllByRecursion Q cells
All-weak P Q f [] h = tt
All-weak P Q f (c ∷ cells) h = (f c h.0, All-weak P Q f cells h.1)

pub Rises-once : (cells : List Cell) → Rises cells → Once cells
Rises-once [] h = tt
Rises-once (c ∷ cells) h = (
  slot_at-none cells c.key (All-weak (λ (d : Cell). is_before c.key d.key ≡ true)
      (λ (d : Cell). same_key c.key d.key ≡ false) (λ d b. before-apart c.key d.key b) cells h.0),
  Rises-once cells h.1,
)

-- a place without the key
pub gap-none : (cells : List Cell) (key : Key) (place : ℕ) → Rises cells → IsPlace cells key place
    → (place < length cells → same_key (cell_at cells place).key key ≡ false) → slot_at cells key ≡ None
gap-none cells key place h p other =
    slot_at-none cells key (All-from_at (λ (c : Cell). same_key key c.key ≡ false) cells (λ k lt. at k lt))
  where
    at : (k : ℕ) → k < length cells → same_key key (cell_at cells k).key ≡ false
    at k lt = elim (cases_lt k place) [
      | inl less ↦ before-other (cell_at cells k).key key (p.before k less)
      | inr le ↦
          let there : place < length cells = omega arith in
          let later : is_before key (cell_at cells place).key ≡ true =
          before-total (cell_at cells place).key key (p.after place (omega arith) there) (other there) in
          elim (cases_eq place k) [
            | inl e ↦ ap (λ (i : ℕ). same_key key (cell_at cells i).key) (sym e)
                ∙ before-apart key (cell_at cells place).key later
            | inr ne ↦
                before-apart key (cell_at cells k).key (before-trans key (cell_at cells place).key (cell_at cells k).key
                later (Rises-at cells place k h (omega arith) lt))
          ]
    ]

-- behind the place all keys come later
pub gap-after : (cells : List Cell) (key : Key) (place : ℕ) → IsGap cells key place → (k : ℕ) → place ≤ k
    → k < length cells → is_before key (cell_at cells k).key ≡ true
gap-after cells key place g k le lt =
    let none = All-at (λ (c : Cell). same_key key c.key ≡ false) cells k (slot_at-absent cells key g.absent) lt in
    before-total (cell_at cells k).key key (g.place_is.after k le lt)
    (same_key-sym (cell_at cells k).key key ∙ none)

All-insert : (P : Cell → Type 0) (cells : List Cell) (place : ℕ) (c : Cell) → P c → AllByRecursion P cells
    → AllByRecursion P (insert cells place c)
All-insert P cells zero c p h = (p, h)
All-insert P [] (suc place) c p h = (p, tt)
All-insert P (d ∷ cells) (suc place) c p h = (h.0, All-insert P cells place c p h.1)

All-remove : (P : Cell → Type 0) (cells : List Cell) (place : ℕ) → AllByRecursion P cells
    → AllByRecursion P (remove cells place)
All-remove P [] zero h = tt
All-remove P [] (suc place) h = tt
All-remove P (d ∷ cells) zero h = h.1
All-remove P (d ∷ cells) (suc place) h = (h.0, All-remove P cells place h.1)

pub Rises-insert : (cells : List Cell) (place : ℕ) (c : Cell) → Rises cells
    → ((k : ℕ) → k < place → k < length cells → is_before (cell_at cells k).key c.key ≡ true)
    → ((k : ℕ) → place ≤ k → k < length cells → is_before c.key (cell_at cells k).key ≡ true)
    → Rises (insert cells place c)
Rises-insert cells zero c h before after =
    (All-from_at (λ (d : Cell). is_before c.key d.key ≡ true) cells (λ k lt. after k (omega arith) lt), h)
Rises-insert [] (suc place) c h before after = (tt, tt)
Rises-insert (d ∷ cells) (suc place) c h before after = (
  All-insert (λ (e : Cell). is_before d.key e.key ≡ true) cells place c (before zero (omega arith) (omega arith)) h.0,
  Rises-insert cells place c h.1 (λ k lt in'. before (suc k) (omega arith) (omega arith))
      (λ k le in'. after (suc k) (omega arith) (omega arith)),
)

pub Rises-remove : (cells : List Cell) (place : ℕ) → Rises cells → Rises (remove cells place)
Rises-remove [] zero h = tt
Rises-remove [] (suc place) h = tt
Rises-remove (d ∷ cells) zero h = h.1
Rises-remove (d ∷ cells) (suc place) h = (
  All-remove (λ (e : Cell). is_before d.key e.key ≡ true) cells place h.0,
  Rises-remove cells place h.1,
)

pub slot_at-insert : (cells : List Cell) (place : ℕ) (c : Cell) (key : Key) → slot_at cells c.key ≡ None
    → slot_at (insert cells place c) key ≡ cond (same_key key c.key) (Some c.slot) (slot_at cells key)
slot_at-insert cells zero c key n = refl
slot_at-insert [] (suc place) c key n = refl
slot_at-insert (d ∷ cells) (suc place) c key n =
    let none = slot_at-absent (d ∷ cells) c.key n in
    let rest : slot_at cells c.key ≡ None = slot_at-none cells c.key none.1 in
    ap (λ (o : Option ℕ). cond (same_key key d.key) (Some d.slot) o) (slot_at-insert cells place c key rest)
    ∙ elim (same_key key d.key) as (λ b. same_key key d.key ≡ b
    → cond b (Some d.slot) (cond (same_key key c.key) (Some c.slot) (slot_at cells key))
    ≡ cond (same_key key c.key) (Some c.slot) (cond b (Some d.slot) (slot_at cells key))) [
      | true ↦ λ e. elim (same_key key c.key) as (λ b. same_key key c.key ≡ b
          → Some d.slot ≡ cond b (Some c.slot) (Some d.slot)) [
            | true ↦ λ f.
                let is : key ≡ c.key = same_key-is key c.key f in
                let at : same_key c.key d.key ≡ true = rw (sym is) e in
                absurd (cc)
            | false ↦ λ f. refl
          ] refl
      | false ↦ λ e. refl
    ] refl

pub slot_at-found : (cells : List Cell) (place : ℕ) → Once cells → place < length cells
    → slot_at cells (cell_at cells place).key ≡ Some (cell_at cells place).slot
slot_at-found [] place h lt = absurd (omega arith)
slot_at-found (c ∷ cells) zero h lt = rw (same_key-refl c.key) refl
slot_at-found (c ∷ cells) (suc place) h lt =
    let key = (cell_at cells place).key in
    let found = slot_at-found cells place h.1 (omega arith) in
    elim (same_key key c.key) as (λ b. same_key key c.key ≡ b
    → cond b (Some c.slot) (slot_at cells key) ≡ Some (cell_at cells place).slot) [
      | true ↦ λ e.
          let is : key ≡ c.key = same_key-is key c.key e in
          let at : slot_at cells key ≡ None = ap (slot_at cells) is ∙ h.0 in
          absurd (cc)
      | false ↦ λ e. found
    ] refl

pub slot_at-remove : (cells : List Cell) (place : ℕ) (key : Key) → Once cells → place < length cells
    → slot_at (remove cells place) key ≡ cond (same_key (cell_at cells place).key key) None (slot_at cells key)
slot_at-remove [] place key h lt = absurd (omega arith)
slot_at-remove (c ∷ cells) zero key h lt =
    elim (same_key key c.key) as (λ b. same_key key c.key ≡ b
    → slot_at cells key ≡ cond (same_key c.key key) None (cond b (Some c.slot) (slot_at cells key))) [
      | true ↦ λ e.
          let is : key ≡ c.key = same_key-is key c.key e in
          rw is (rw (same_key-refl c.key) h.0)
      | false ↦ λ e. rw (same_key-sym c.key key ∙ e) refl
    ] refl
slot_at-remove (c ∷ cells) (suc place) key h lt =
    let it = (cell_at cells place).key in
    ap (λ (o : Option ℕ). cond (same_key key c.key) (Some c.slot) o)
    (slot_at-remove cells place key h.1 (omega arith))
    ∙ elim (same_key key c.key) as (λ b. same_key key c.key ≡ b
    → cond b (Some c.slot) (cond (same_key it key) None (slot_at cells key))
    ≡ cond (same_key it key) None (cond b (Some c.slot) (slot_at cells key))) [
      | true ↦ λ e. elim (same_key it key) as (λ b. same_key it key ≡ b
          → Some c.slot ≡ cond b None (Some c.slot)) [
            | true ↦ λ f.
                let is : key ≡ c.key = same_key-is key c.key e in
                let at : it ≡ key = same_key-is it key f in
                let found = slot_at-found cells place h.1 (omega arith) in
                let none : slot_at cells it ≡ None = ap (slot_at cells) (at ∙ is) ∙ h.0 in
                absurd (cc)
            | false ↦ λ f. refl
          ] refl
      | false ↦ λ e. refl
    ] refl

-- what comes at a place that isn't before the key, or behind it, isn't before it either
pub not_before : (cells : List Cell) (i k : ℕ) (key : Key) → Rises cells → is_before (cell_at cells i).key key ≡ false
    → i ≤ k → k < length cells → is_before (cell_at cells k).key key ≡ false
not_before cells i k key h e le lt = elim (cases_eq i k) [
  | inl same ↦ rw (sym same) e
  | inr ne ↦ elim (is_before (cell_at cells k).key key) as (λ b. is_before (cell_at cells k).key key ≡ b → b ≡ false) [
    | true ↦ λ t.
        let early = before-trans (cell_at cells i).key (cell_at cells k).key key
        (Rises-at cells i k h (omega arith) lt) t in
        absurd (cc)
    | false ↦ λ t. refl
  ] refl
]
