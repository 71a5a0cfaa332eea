-- What the definitions of lists of items mean, each law the contract of a function in src/laws.rt.
use Rattle.std.specs.Prelude.{◌≡◌, ℕ, ◌<◌, ◌≤◌, List, ◌∷◌, Some, None, length, drop, All}
use Rattle.timers.specs.declared.links.links.Item.{Item}
use Rattle.timers.specs.Links.Items.{list_at, first_due}

-- the first item of a list isn't due, or there is none
abbrev pub IsNotDue : ℕ → List Item → Type 0
IsNotDue now items = (item : Item) (rest : List Item) → items ≡ item ∷ rest → now < item.due

-- the item is the first of the lowest list whose first item is due
pub record IsFirstDue (now : ℕ) (lists : List (List Item)) (item : Item) : Type 0 where
  pub list : ℕ
  pub within : list < length lists
  pub first : list_at lists list ≡ item ∷ drop 1 (list_at lists list)
  pub due : item.due ≤ now
  pub lowest : (lower : ℕ) → lower < list → IsNotDue now (list_at lists lower)

-- what is taken as due is due and stands first in the lowest such list, and nothing is taken only where there is none
pub record FirstDueIsLowest : Type 0 where
  pub some : (now : ℕ) (lists : List (List Item)) (item : Item) → first_due now lists ≡ Some item →
      IsFirstDue now lists item
  pub none : (now : ℕ) (lists : List (List Item)) → first_due now lists ≡ None → All (IsNotDue now) lists
