-- What the calls answer.
use Rattle.std.specs.Prelude.{◌≡◌, ℕ, ◌<◌, ◌≤◌, List, [], ◌∷◌, ◌++◌, length, Result, Ok, Err}
use Rattle.rm_policy.specs.Alternatives.Limits.{most_alternatives, most_terms, HasTerms, HasTooMany}
use Rattle.rm_policy.specs.Alternatives.Normal.{IsNormal, IsIntersection, HasMoreInCommon}
use Rattle.rm_policy.specs.Alternatives.Tree.{Policy}
use Rattle.rm_policy.specs.declared.alternatives.error.WspError.{WspError}
use Rattle.rm_policy.specs.declared.alternatives.error.WspError.TheVariants.{Memory, Envelope, Malformed}
use Rattle.rm_policy.specs.declared.alternatives.error.WspError.TheVariants.{SecurityUnsupported, TooLarge}
use Rattle.rm_policy.specs.declared.alternatives.error.WspError.TheVariants.{TooManyTerms, TooManyAlternatives}
use Rattle.rm_policy.specs.declared.alternatives.term.Term.{Term}

-- no more different terms than it may have
abbrev pub HasFewTerms : Policy → Type 0
HasFewTerms p = (n : ℕ) × HasTerms p n × (n ≤ most_terms)

-- what `normalise` answers, and when
abbrev pub Normalises : Policy → Result (List (List Term)) WspError → Type 0
Normalises p (Ok lists) = IsNormal p lists × HasFewTerms p × (HasTooMany most_alternatives p → ⊥)
Normalises p (Err Memory) = Unit {0}
Normalises p (Err (Envelope e)) = ⊥
Normalises p (Err Malformed) = ⊥
Normalises p (Err (SecurityUnsupported name)) = ⊥
Normalises p (Err (TooLarge n)) = ⊥
Normalises p (Err (TooManyTerms n)) = HasTerms p n × (most_terms < n)
Normalises p (Err TooManyAlternatives) = HasFewTerms p × HasTooMany most_alternatives p

-- what `intersect` answers of alternatives, and when
abbrev pub Intersects : List (List Term) → List (List Term) → Result (List (List Term)) WspError → Type 0
Intersects a b (Ok lists) = IsIntersection a b lists × (HasMoreInCommon most_alternatives a b → ⊥)
Intersects a b (Err Memory) = Unit {0}
Intersects a b (Err (Envelope e)) = ⊥
Intersects a b (Err Malformed) = ⊥
Intersects a b (Err (SecurityUnsupported name)) = ⊥
Intersects a b (Err (TooLarge n)) = ⊥
Intersects a b (Err (TooManyTerms n)) = ⊥
Intersects a b (Err TooManyAlternatives) = HasMoreInCommon most_alternatives a b

-- what putting an alternative behind others answers, and when. Private to the crate's own clauses.
abbrev pub AddsAnswer : List (List Term) → List Term → List (List Term) → Result (Unit {0}) WspError → Type 0
AddsAnswer old ts new (Ok u) = (new ≡ old ++ ts ∷ []) × (length old < most_alternatives)
AddsAnswer old ts new (Err Memory) = Unit {0}
AddsAnswer old ts new (Err (Envelope e)) = ⊥
AddsAnswer old ts new (Err Malformed) = ⊥
AddsAnswer old ts new (Err (SecurityUnsupported name)) = ⊥
AddsAnswer old ts new (Err (TooLarge n)) = ⊥
AddsAnswer old ts new (Err (TooManyTerms n)) = ⊥
AddsAnswer old ts new (Err TooManyAlternatives) = most_alternatives ≤ length old
