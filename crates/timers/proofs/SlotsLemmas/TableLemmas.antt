-- The lists and the cells stay tied when a key moves, begins to wait or waits no more.
use Rattle.std.proofs.Common.{◌≡◌, ◌≢◌, ℕ, ◌<◌, inl, inr, List, [], ◌∷◌, ◌++◌, length, set, refl, sym, ap, subst, ◌∙◌}
use Rattle.std.proofs.Common.{arith, append_assoc, length-set}
use Rattle.std.proofs.lemmas.Bool.{cases_eq}
use Rattle.std.proofs.lemmas.List.{get_or-set_same, get_or-set_other}
use Rattle.rm_base.specs.Limits.{most_keys}
use Rattle.timers.specs.declared.links.links.Item.{Item}
use Rattle.timers.specs.Links.Items.{Stands, IsLive, list_at}
use Rattle.timers.specs.declared.slots.table.Cell.{Cell}
use Rattle.timers.specs.Slots.Table.{blank_cell, cell_at, with_at, Each, IsTiedItem, IsTied, left_of, shifted, NotOwned}
use Rattle.timers.specs.Slots.Table.{with_new}

pub Each-map : (P Q : Item → Type 0) → ((x : Item) → P x → Q x) → (xs : List Item) → Each P xs → Each Q xs
Each-map P Q f [] h = tt
Each-map P Q f (x ∷ xs) h = (f x h.0, Each-map P Q f xs h.1)

Each-append : (P : Item → Type 0) (xs ys : List Item) → Each P xs → Each P ys → Each P (xs ++ ys)
Each-append P [] ys h k = k
Each-append P (x ∷ xs) ys h k = (h.0, Each-append P xs ys h.1 k)

pub Each-drop : (P : Item → Type 0) (ys : List Item) (x : Item) (zs : List Item) → Each P (ys ++ x ∷ zs) →
    P x × Each P (ys ++ zs)
Each-drop P [] x zs h = h
Each-drop P (y ∷ ys) x zs h = let k = Each-drop P ys x zs h.1 in (k.0, (h.0, k.1))

Each-both : (P Q : Item → Type 0) (xs : List Item) → Each P xs → Each Q xs → Each (λ i. P i × Q i) xs
Each-both P Q [] p q = tt
Each-both P Q (x ∷ xs) p q = ((p.0, q.0), Each-both P Q xs p.1 q.1)

-- what is known of each, with the place where it stands
Each-with : (P Q : Item → Type 0) (pre xs : List Item) →
    ((before : List Item) (i : Item) (after : List Item) → pre ++ xs ≡ before ++ i ∷ after → P i → Q i) →
    Each P xs → Each Q xs
Each-with P Q pre [] f h = tt
Each-with P Q pre (x ∷ xs) f h =
    let rest : Each Q xs =
    Each-with P Q (pre ++ x ∷ []) xs (λ before i after e p. f before i after
    (sym (append_assoc pre (x ∷ []) xs) ∙ e) p) h.1 in
    (f pre x xs refl h.0, rest)

pub tied_at : (lists : List (List Item)) (cells : List Cell) (before : List Item) (item : Item) (after : List Item) →
    IsTied lists cells → Stands lists before item after → IsTiedItem cells item.list item
tied_at lists cells before item after t st =
    let seven = t.seven in
    let within = st.within in
    (Each-drop (IsTiedItem cells item.list) before item after
    (subst (Each (IsTiedItem cells item.list)) st.split (t.each item.list (omega arith)))).0

-- without an item the others stay tied
pub left_tied : (lists : List (List Item)) (cells : List Cell) (before : List Item) (item : Item) (after : List Item) →
    IsTied lists cells → Stands lists before item after → IsTied (left_of lists before item after) cells
left_tied lists cells before item after t st =
    let l = item.list in
    let seven = t.seven in
    let within = st.within in
    record {
      seven = length-set lists l (before ++ after) ∙ seven;
      each = λ k lt. elim (cases_eq k l) [
        | inl e ↦ rw e (subst (Each (IsTiedItem cells l)) (sym (get_or-set_same lists l (before ++ after) [] within))
            (Each-drop (IsTiedItem cells l) before item after
            (subst (Each (IsTiedItem cells l)) st.split (t.each l (omega arith)))).1)
        | inr ne ↦
            subst (Each (IsTiedItem cells k)) (sym (get_or-set_other lists l k (before ++ after) [] ne)) (t.each k lt)
      ];
      small = t.small;
    }

-- an item is tied, and another key's
record IsOther (cells : List Cell) (class key : ℕ) (item : Item) : Type 0 where
  tied : IsTiedItem cells class item
  other : item.key ≢ key

left_others : (lists : List (List Item)) (cells : List Cell) (before : List Item) (item : Item) (after : List Item) →
    IsTied lists cells → Stands lists before item after → (IsLive (left_of lists before item after) item.slot → ⊥) →
    (k : ℕ) → k < 7 → Each (IsOther cells k item.key) (list_at (left_of lists before item after) k)
left_others lists cells before item after t st gone k lt =
    let out = left_of lists before item after in
    let left : IsTied out cells = left_tied lists cells before item after t st in
    let mine = tied_at lists cells before item after t st in
    let len = left.seven in
    Each-with (IsTiedItem cells k) (IsOther cells k item.key) [] (list_at out k)
    (λ b i a e p. record {
      tied = p;
      other = λ same.
          let at_list = p.list in
          gone (record {
            before = b;
            item = i;
            after = a;
            has = sym p.at ∙ ap (λ (j : ℕ). (cell_at cells j).at) same ∙ mine.at;
            stands = record { within = omega arith; split = ap (list_at out) p.list ∙ e };
          });
    })
    (left.each k lt)

pub shifted_tied : (lists : List (List Item)) (cells : List Cell) (before : List Item) (item : Item) (after : List Item)
    (class due at : ℕ) → IsTied lists cells → Stands lists before item after →
    (IsLive (left_of lists before item after) item.slot → ⊥) → class < 7 →
    IsTied (shifted lists before item after class due at) (with_at cells item.key at)
shifted_tied lists cells before item after class due at t st gone lt =
    let out = left_of lists before item after in
    let key = item.key in
    let new = with_at cells key at in
    let seven = t.seven in
    let mine = tied_at lists cells before item after t st in
    let len : length out ≡ length lists = length-set lists item.list (before ++ after) in
    let cell : Cell = record (cell_at cells key) { at = at } in
    let len_new : length new ≡ length cells = length-set cells key cell in
    let owned = mine.owned in
    let put : Item = record { slot = at; list = class; key = key; due = due } in
    let last = list_at out class ++ put ∷ [] in
    let still : (k : ℕ) → k < 7 → Each (IsTiedItem new k) (list_at out k) =
    λ k ltk. Each-map (IsOther cells k key) (IsTiedItem new k)
    (λ i h.
    let own = h.tied.owned in
    record {
      list = h.tied.list;
      owned = omega arith;
      at = ap (λ (v : Cell). v.at) (get_or-set_other cells key i.key cell blank_cell h.other) ∙ h.tied.at;
    })
    (list_at out k) (left_others lists cells before item after t st gone k ltk) in
    record {
      seven = length-set out class last ∙ len ∙ seven;
      each = λ k ltk. elim (cases_eq k class) [
        | inl e ↦ rw e (subst (Each (IsTiedItem new class)) (sym (get_or-set_same out class last [] (omega arith)))
            (Each-append (IsTiedItem new class) (list_at out class) (put ∷ []) (still class lt) (
              record {
                list = refl;
                owned = omega arith;
                at = ap (λ (v : Cell). v.at) (get_or-set_same cells key cell blank_cell mine.owned);
              },
              tt,
            )))
        | inr ne ↦ subst (Each (IsTiedItem new k)) (sym (get_or-set_other out class k last [] ne)) (still k ltk)
      ];
      small = len_new ∙ t.small;
    }

pub new_tied : (lists : List (List Item)) (cells : List Cell) (cell : Cell) (slot : ℕ) → IsTied lists cells →
    slot < most_keys → NotOwned lists slot → IsTied (with_new lists slot cell.at) (set cells slot cell)
new_tied lists cells cell slot t lt free =
    let seven = t.seven in
    let small = t.small in
    let put : Item = record { slot = cell.at; list = 0; key = slot; due = 0 } in
    let last = list_at lists 0 ++ put ∷ [] in
    let new = set cells slot cell in
    let len : length new ≡ length cells = length-set cells slot cell in
    let still : (l : ℕ) → l < 7 → Each (IsTiedItem new l) (list_at lists l) = λ l ltl.
    Each-map (λ i. IsTiedItem cells l i × (i.key ≢ slot)) (IsTiedItem new l)
    (λ i p.
    let own = p.0.owned in
    record {
      list = p.0.list;
      owned = omega arith;
      at = ap (λ (v : Cell). v.at) (get_or-set_other cells slot i.key cell blank_cell p.1) ∙ p.0.at;
    })
    (list_at lists l) (Each-both (IsTiedItem cells l) (λ i. i.key ≢ slot) (list_at lists l) (t.each l ltl)
    (free l ltl)) in
    record {
      seven = length-set lists 0 last ∙ seven;
      each = λ k ltk. elim (cases_eq k 0) [
        | inl e ↦ rw e (subst (Each (IsTiedItem new 0)) (sym (get_or-set_same lists 0 last [] (omega arith)))
            (Each-append (IsTiedItem new 0) (list_at lists 0) (put ∷ []) (still 0 (omega arith)) (
              record {
                list = refl;
                owned = omega arith;
                at = ap (λ (v : Cell). v.at) (get_or-set_same cells slot cell blank_cell (omega arith));
              },
              tt,
            )))
        | inr ne ↦ subst (Each (IsTiedItem new k)) (sym (get_or-set_other lists 0 k last [] ne)) (still k ltk)
      ];
      small = len ∙ small;
    }
