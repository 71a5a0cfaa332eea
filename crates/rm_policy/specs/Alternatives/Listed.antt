-- Alternatives as lists, on the way to the normal form. Private to the crate's own clauses.
use Rattle.std.specs.Prelude.{◌≡◌, ◌↔◌, ℕ, List, [], ◌∷◌, drop, Bool, true, false, if◌then◌else◌}
use Rattle.std.specs.declared.cmp.Ordering.{Ordering}
use Rattle.std.specs.declared.cmp.Ordering.TheVariants.{Less, Greater}
use Rattle.std.specs.List.{AllByRecursion}
use Rattle.rm_policy.specs.Alternatives.Masks.{chosen, picked_list}
use Rattle.rm_policy.specs.Alternatives.Normal.{Holds}
use Rattle.rm_policy.specs.Alternatives.Sets.{TermSet, Rises, list_cmp}
use Rattle.rm_policy.specs.Alternatives.Terms.{term_cmp}
use Rattle.rm_policy.specs.declared.alternatives.term.Term.{Term}

-- the alternatives so far, of the masks that were looked at
pub record ListedSoFar (ts : List Term) (seen : ℕ → Type 0) (ls : List (List Term)) : Type 0 where
  pub rises : Rises list_cmp ls
  pub each : AllByRecursion (Rises term_cmp) ls
  pub exact : (x : TermSet) → Holds ls x ↔ ((m : ℕ) × seen m × (x ≡ chosen ts m))

-- whether there are any terms
abbrev pub has_any : List Term → Bool
has_any [] = false
has_any (t ∷ ts) = true

-- the order of two masks by the terms from a place on
abbrev pub mask_order : List Term → ℕ → ℕ → ℕ → Ordering
mask_order ts i m n = list_cmp (picked_list i (drop i ts) m) (picked_list i (drop i ts) n)

-- the order of the alternatives of two masks
abbrev pub mask_cmp : List Term → ℕ → ℕ → Ordering
mask_cmp ts m n = list_cmp (picked_list 0 ts m) (picked_list 0 ts n)

-- how two lists are ordered of which either may have a term more in front, that is below all they have: by whether they
-- have it, whether they have any behind it, and how these are ordered
abbrev pub order_step : Bool → Bool → Bool → Bool → Ordering → Ordering
order_step true false some other_some r = if other_some then Less else Greater
order_step false true some other_some r = if some then Greater else Less
order_step true true some other_some r = r
order_step false false some other_some r = r
