-- What is due first stands first in the lowest list whose first item is due.
use Rattle.std.proofs.Common.{◌≡◌, ℕ, zero, suc, ◌<◌, ◌≤◌, inl, inr, List, [], ◌∷◌, Some, None, refl, sym, ap, subst}
use Rattle.std.proofs.Common.{◌∙◌, arith}
use Rattle.std.specs.Prelude.{All}
use Rattle.std.proofs.lemmas.Bool.{cases_lt, lt-leb, le-leb}
use Rattle.std.proofs.lemmas.List.Elements.{All-nil, All-cons}
use Rattle.timers.specs.declared.links.links.Item.{Item}
use Rattle.timers.specs.Links.Items.{list_at, first_due}
use Rattle.timers.specs.Links.Laws.{IsNotDue, IsFirstDue}

-- an empty list has none that is due
none_there : (now : ℕ) → IsNotDue now []
none_there now item rest e = absurd (cc)

-- a list whose first item is later has none
first_is_later : (now : ℕ) (item : Item) (items : List Item) → now < item.due → IsNotDue now (item ∷ items)
first_is_later now item items late other rest e =
    let same : item ≡ other = cc in
    subst (λ (v : Item). now < v.due) same late

-- behind one more list that has none
one_behind : (now : ℕ) (items : List Item) (lists : List (List Item)) (item : Item) → IsNotDue now items →
    IsFirstDue now lists item → IsFirstDue now (items ∷ lists) item
one_behind now items lists item not_here rest =
    let within = rest.within in
    record {
      list = suc rest.list;
      within = omega arith;
      first = rest.first;
      due = rest.due;
      lowest = below not_here rest.list rest.lowest;
    }
  where
    below : IsNotDue now items → (list : ℕ) → ((l : ℕ) → l < list → IsNotDue now (list_at lists l)) →
        (l : ℕ) → l < suc list → IsNotDue now (list_at (items ∷ lists) l)
    below here list more zero lt = here
    below here list more (suc l) lt = more l (omega arith)

pub first_due_some : (now : ℕ) (lists : List (List Item)) (item : Item) → first_due now lists ≡ Some item →
    IsFirstDue now lists item
first_due_some now [] item e = absurd (cc)
first_due_some now ([] ∷ lists) item e =
    one_behind now [] lists item (none_there now) (first_due_some now lists item e)
first_due_some now ((x ∷ xs) ∷ lists) item e = elim (cases_lt now x.due) [
  | inl late ↦
      let skip : first_due now ((x ∷ xs) ∷ lists) ≡ first_due now lists = rw (lt-leb x.due now late) refl in
      one_behind now (x ∷ xs) lists item (first_is_later now x xs late) (first_due_some now lists item (sym skip ∙ e))
  | inr due ↦
      let here : first_due now ((x ∷ xs) ∷ lists) ≡ Some x = rw (le-leb x.due now due) refl in
      let same : x ≡ item = cc in
      record {
        list = zero;
        within = omega arith;
        first = ap (λ (v : Item). v ∷ xs) same;
        due = subst (λ (v : Item). v.due ≤ now) same due;
        lowest = λ l lt. absurd (omega arith);
      }
]

pub first_due_none : (now : ℕ) (lists : List (List Item)) → first_due now lists ≡ None → All (IsNotDue now) lists
first_due_none now [] e = All-nil (IsNotDue now)
first_due_none now ([] ∷ lists) e =
    All-cons (IsNotDue now) [] lists (none_there now) (first_due_none now lists e)
first_due_none now ((x ∷ xs) ∷ lists) e = elim (cases_lt now x.due) [
  | inl late ↦
      let skip : first_due now ((x ∷ xs) ∷ lists) ≡ first_due now lists = rw (lt-leb x.due now late) refl in
      All-cons (IsNotDue now) (x ∷ xs) lists (first_is_later now x xs late) (first_due_none now lists (sym skip ∙ e))
  | inr due ↦
      let here : first_due now ((x ∷ xs) ∷ lists) ≡ Some x = rw (le-leb x.due now due) refl in
      absurd (cc)
]
