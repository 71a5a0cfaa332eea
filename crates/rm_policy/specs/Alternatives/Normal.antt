-- Normal form and strict intersection: WS-Policy 1.5, sections 4.1 and 4.5.
use Rattle.std.specs.Prelude.{◌≡◌, ◌↔◌, ℕ, ◌<◌, true, List, [], ◌∷◌, ◌⊎◌, length}
use Rattle.std.specs.List.{AllByRecursion}
use Rattle.std.specs.FinSet.{contains, union, from_list}
use Rattle.rm_policy.specs.Alternatives.Admits.{Admits}
use Rattle.rm_policy.specs.Alternatives.Sets.{TermSet, Rises, list_cmp}
use Rattle.rm_policy.specs.Alternatives.Terms.{term_cmp}
use Rattle.rm_policy.specs.Alternatives.Tree.{Policy}
use Rattle.rm_policy.specs.declared.alternatives.term.Term.{Term}

-- a set is among alternatives that are given as lists
abbrev pub Holds : List (List Term) → TermSet → Type 0
Holds [] x = ⊥
Holds (ts ∷ lists) x = (x ≡ from_list ts) ⊎ Holds lists x

-- a rising list of alternatives, each as its rising list
pub record AreAlternatives (lists : List (List Term)) : Type 0 where
  pub rises : Rises list_cmp lists
  pub each : AllByRecursion (Rises term_cmp) lists

-- exactly the sets that a policy admits
pub record IsNormal (p : Policy) (lists : List (List Term)) : Type 0 where
  pub are : AreAlternatives lists
  pub exact : (x : TermSet) → Admits p x ↔ Holds lists x

-- each term of either set has an equal one in the other
abbrev pub AreCompatible : TermSet → TermSet → Type 0
AreCompatible y z = ((t : Term) → contains y t ≡ true → contains z t ≡ true)
    × ((t : Term) → contains z t ≡ true → contains y t ≡ true)

-- the union of a compatible pair
abbrev pub InCommon : List (List Term) → List (List Term) → TermSet → Type 0
InCommon a b x = (y : TermSet) × (z : TermSet) × Holds a y × Holds b z × AreCompatible y z × (x ≡ union y z)

-- exactly the unions of compatible pairs
pub record IsIntersection (a b lists : List (List Term)) : Type 0 where
  pub are : AreAlternatives lists
  pub exact : (x : TermSet) → Holds lists x ↔ InCommon a b x

-- there are more than so many
pub record HasMoreInCommon (n : ℕ) (a b : List (List Term)) : Type 0 where
  pub lists : List (List Term)
  pub are : AreAlternatives lists
  pub sound : (x : TermSet) → Holds lists x → InCommon a b x
  pub more : n < length lists
