-- What is found of bytes: the normal form of a policy, or what a pair of policies has in common.
use Rattle.std.specs.Prelude.{◌≡◌, ◌⊎◌, ℕ, ◌<◌, List, Result, Ok, Err}
use Rattle.rm_policy.specs.Reading.{IsNoDocument}
use Rattle.rm_policy.specs.Alternatives.Answers.{HasFewTerms}
use Rattle.rm_policy.specs.Alternatives.Limits.{most_alternatives, most_terms, HasTerms, HasTooMany}
use Rattle.rm_policy.specs.Alternatives.Normal.{IsNormal, IsIntersection, HasMoreInCommon}
use Rattle.rm_policy.specs.Alternatives.Reading.{ReadsAs, policy_of, pair_of}
use Rattle.rm_policy.specs.Alternatives.Tree.{Policy}
use Rattle.rm_policy.specs.declared.alternatives.error.WspError.{WspError}
use Rattle.rm_policy.specs.declared.alternatives.error.WspError.TheVariants.{Memory, Envelope, Malformed}
use Rattle.rm_policy.specs.declared.alternatives.error.WspError.TheVariants.{SecurityUnsupported, TooLarge}
use Rattle.rm_policy.specs.declared.alternatives.error.WspError.TheVariants.{TooManyTerms, TooManyAlternatives}
use Rattle.rm_policy.specs.declared.alternatives.term.Term.{Term}

-- a policy has more terms than it may, and so many
abbrev pub HasManyTerms : Policy → ℕ → Type 0
HasManyTerms p n = HasTerms p n × (most_terms < n)

-- it has few, and some operator in it has more alternatives than it may
abbrev pub HasManyAlternatives : Policy → Type 0
HasManyAlternatives p = HasFewTerms p × HasTooMany most_alternatives p

-- it has neither
abbrev pub IsWithin : Policy → Type 0
IsWithin p = HasFewTerms p × (HasTooMany most_alternatives p → ⊥)

-- the bytes are a policy within its limits, and these are its alternatives
pub record IsNormalOf (bytes : List ℕ) (lists : List (List Term)) : Type 0 where
  pub policy : Policy
  pub read : ReadsAs policy_of bytes (Ok policy)
  pub within : IsWithin policy
  pub normal : IsNormal policy lists

-- the bytes are a pair of policies within their limits, and these are the alternatives that both have in common
pub record IsCommonOf (bytes : List ℕ) (common : List (List Term)) : Type 0 where
  pub one : Policy
  pub other : Policy
  pub read : ReadsAs pair_of bytes (Ok (one, other))
  pub within : IsWithin one
  pub other_within : IsWithin other
  pub lists : List (List Term)
  pub others : List (List Term)
  pub normal : IsNormal one lists
  pub other_normal : IsNormal other others
  pub few : HasMoreInCommon most_alternatives lists others → ⊥
  pub shared : IsIntersection lists others common

-- of a pair the first has too many terms, or the second has them where the first is within its limits
abbrev pub PairHasManyTerms : List ℕ → ℕ → Type 0
PairHasManyTerms bytes n = (p : Policy) × (q : Policy) × ReadsAs pair_of bytes (Ok (p, q))
    × (HasManyTerms p n ⊎ (IsWithin p × HasManyTerms q n))

-- the first has too many alternatives, or the second where the first is within its limits, or they have too many in
-- common where both are
abbrev pub PairHasManyAlternatives : List ℕ → Type 0
PairHasManyAlternatives bytes = (p : Policy) × (q : Policy) × ReadsAs pair_of bytes (Ok (p, q))
    × (HasManyAlternatives p ⊎ ((IsWithin p × HasManyAlternatives q)
    ⊎ (IsWithin p × IsWithin q × ((a : List (List Term)) × (b : List (List Term)) × IsNormal p a × IsNormal q b
    × HasMoreInCommon most_alternatives a b))))

-- what is found of a policy, or why nothing is
abbrev pub FindsNormal : List ℕ → Result (List (List Term)) WspError → Type 0
FindsNormal bytes (Ok lists) = IsNormalOf bytes lists
FindsNormal bytes (Err Memory) = Unit {0}
FindsNormal bytes (Err (Envelope error)) = IsNoDocument bytes error
FindsNormal bytes (Err Malformed) = ReadsAs policy_of bytes (Err Malformed)
FindsNormal bytes (Err (SecurityUnsupported name)) = ReadsAs policy_of bytes (Err (SecurityUnsupported name))
FindsNormal bytes (Err (TooLarge elements)) = ReadsAs policy_of bytes (Err (TooLarge elements))
FindsNormal bytes (Err (TooManyTerms n)) = (p : Policy) × ReadsAs policy_of bytes (Ok p) × HasManyTerms p n
FindsNormal bytes (Err TooManyAlternatives) = (p : Policy) × ReadsAs policy_of bytes (Ok p) × HasManyAlternatives p

-- what is found of a pair of policies, or why nothing is
abbrev pub FindsCommon : List ℕ → Result (List (List Term)) WspError → Type 0
FindsCommon bytes (Ok common) = IsCommonOf bytes common
FindsCommon bytes (Err Memory) = Unit {0}
FindsCommon bytes (Err (Envelope error)) = IsNoDocument bytes error
FindsCommon bytes (Err Malformed) = ReadsAs pair_of bytes (Err Malformed)
FindsCommon bytes (Err (SecurityUnsupported name)) = ReadsAs pair_of bytes (Err (SecurityUnsupported name))
FindsCommon bytes (Err (TooLarge elements)) = ReadsAs pair_of bytes (Err (TooLarge elements))
FindsCommon bytes (Err (TooManyTerms n)) = PairHasManyTerms bytes n
FindsCommon bytes (Err TooManyAlternatives) = PairHasManyAlternatives bytes
