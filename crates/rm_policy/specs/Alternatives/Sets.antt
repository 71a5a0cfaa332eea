-- Sets of terms, sets of such sets, and rising lists.
use Rattle.std.specs.declared.cmp.Ordering.{Ordering}
use Rattle.std.specs.declared.cmp.Ordering.TheVariants.{Less}
use Rattle.std.specs.Prelude.{◌≡◌, List, [], ◌∷◌}
use Rattle.std.specs.List.{AllByRecursion}
use Rattle.std.specs.Cmp.Lexicographic.{slice_cmp}
use Rattle.std.specs.FinSet.{FinSet, items}
use Rattle.rm_policy.specs.Alternatives.Terms.{term_cmp}
use Rattle.rm_policy.specs.declared.alternatives.term.Term.{Term}

-- a set of terms: a policy alternative (WS-Policy 1.5, section 2.4), in which an assertion stands once
abbrev pub TermSet : Type 0
TermSet = FinSet term_cmp

-- an order of such sets, by which they are counted
abbrev pub set_cmp : TermSet → TermSet → Ordering
set_cmp x y = slice_cmp term_cmp (items x) (items y)

-- a set of alternatives
abbrev pub Choices : Type 0
Choices = FinSet set_cmp

-- each is below all behind it
abbrev pub Rises : {K : Type 0} → (K → K → Ordering) → List K → Type 0
Rises R [] = Unit {0}
Rises R (x ∷ xs) = AllByRecursion (λ y. R x y ≡ Less) xs × Rises R xs

-- the order of alternatives as lists, from the first term on
abbrev pub list_cmp : List Term → List Term → Ordering
list_cmp = slice_cmp term_cmp
