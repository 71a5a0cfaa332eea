-- The limits of policies and of their normal forms, each of them a number that stands here once. That of alternatives
-- holds of each operator, over as many of its first policies as one likes.
use Rattle.std.specs.Prelude.{◌≡◌, ◌↔◌, ℕ, ◌<◌, true, ◌⊎◌}
use Rattle.std.specs.FinSet.{contains, len}
use Rattle.rm_policy.specs.Alternatives.Admits.{Admits}
use Rattle.rm_policy.specs.Alternatives.Sets.{TermSet, Choices}
use Rattle.rm_policy.specs.Alternatives.Tree.{Policy, Policies, all, exactly_one, assertion, none, and, first}
use Rattle.rm_policy.specs.declared.alternatives.term.Term.{Term}

-- the most different terms of a policy
abbrev pub most_terms : ℕ
most_terms = 64

-- the most alternatives of an operator, and of two policies in common
abbrev pub most_alternatives : ℕ
most_alternatives = 256

-- the most elements of a document
abbrev pub most_elements : ℕ
most_elements = 4096

-- a policy has more than so many alternatives: there are more sets that it admits
abbrev pub HasMore : ℕ → Policy → Type 0
HasMore n p = (c : Choices) × ((x : TermSet) → contains c x ≡ true → Admits p x) × (n < len c)

-- so it is with an operator over some of its first policies, somewhere in the tree
abbrev mutual
  pub HasTooMany : ℕ → Policy → Type 0
  HasTooMany n (assertion t optional) = ⊥
  HasTooMany n (exactly_one ps) = OneHasTooMany n ps ⊎ ((k : ℕ) × HasMore n (exactly_one (first k ps)))
  HasTooMany n (all ps) = OneHasTooMany n ps ⊎ ((k : ℕ) × HasMore n (all (first k ps)))

  pub OneHasTooMany : ℕ → Policies → Type 0
  OneHasTooMany n none = ⊥
  OneHasTooMany n (and p ps) = HasTooMany n p ⊎ OneHasTooMany n ps

-- a term stands in the policy
abbrev mutual
  pub Mentions : Policy → Term → Type 0
  Mentions (assertion t optional) u = u ≡ t
  Mentions (exactly_one ps) u = OneMentions ps u
  Mentions (all ps) u = OneMentions ps u

  pub OneMentions : Policies → Term → Type 0
  OneMentions none u = ⊥
  OneMentions (and p ps) u = Mentions p u ⊎ OneMentions ps u

-- exactly the terms that stand in it
abbrev pub AreTerms : Policy → TermSet → Type 0
AreTerms p x = (t : Term) → Mentions p t ↔ (contains x t ≡ true)

-- it has so many different terms
abbrev pub HasTerms : Policy → ℕ → Type 0
HasTerms p n = (x : TermSet) × AreTerms p x × (n ≡ len x)
