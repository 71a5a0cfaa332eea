-- The order of terms: assertions of reliable messaging first, by assurance and then by order, then the others by
-- namespace and local name.
use Rattle.std.specs.Prelude.{ℕ, List, [], ◌∷◌, Bool, true, false}
use Rattle.std.specs.Ordering.{nat_cmp}
use Rattle.std.specs.declared.cmp.Ordering.{Ordering}
use Rattle.std.specs.Cmp.Lexicographic.{slice_cmp}
use Rattle.rm_policy.specs.declared.assertion.Assurance.{Assurance}
use Rattle.rm_policy.specs.declared.assertion.Assurance.TheVariants.{Unsaid, ExactlyOnce, AtLeastOnce, AtMostOnce}
use Rattle.rm_policy.specs.declared.alternatives.term.Term.{Term}
use Rattle.rm_policy.specs.declared.alternatives.term.Term.TheVariants.{Rm, Other}

-- the place of an assurance
abbrev pub assurance_place : Assurance → ℕ
assurance_place Unsaid = 0
assurance_place ExactlyOnce = 1
assurance_place AtLeastOnce = 2
assurance_place AtMostOnce = 3

-- false before true
abbrev pub bool_place : Bool → ℕ
bool_place false = 0
bool_place true = 1

-- by what a term is ordered
abbrev pub term_key : Term → List (List ℕ)
term_key (Rm assurance in_order) = [] ∷ (assurance_place assurance ∷ bool_place in_order ∷ []) ∷ []
term_key (Other name) = (0 ∷ []) ∷ name.space ∷ name.local ∷ []

-- the order of terms
abbrev pub term_cmp : Term → Term → Ordering
term_cmp t u = slice_cmp (slice_cmp nat_cmp) (term_key t) (term_key u)
