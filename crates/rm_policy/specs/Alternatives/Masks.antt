-- How the code works: a mask is a set of some listed terms, by their places. Private to the crate's own clauses.
use Rattle.std.specs.Prelude.{◌≡◌, ◌↔◌, ℕ, suc, ◌<◌, ◌≤◌, ◌^◌, List, [], ◌∷◌, ◌⊎◌, map, length, Bool, true}
use Rattle.std.specs.Prelude.{false, ◌||◌, ◌&&◌, ◌==◌, if◌then◌else◌, Result, Ok, Err}
use Rattle.std.specs.Int.{bit_at}
use Rattle.std.specs.Int.RustNames.{bit_or}
use Rattle.std.specs.List.{list_any}
use Rattle.std.specs.BTreeSet.{insert_key}
use Rattle.std.specs.Ordering.{eq_by_cmp, nat_cmp}
use Rattle.std.specs.FinSet.{empty, insert, from_list}
use Rattle.rm_policy.specs.Alternatives.Admits.{Admits}
use Rattle.rm_policy.specs.Alternatives.Limits.{most_alternatives, most_terms, HasTerms, HasTooMany, OneHasTooMany}
use Rattle.rm_policy.specs.Alternatives.Limits.{HasMore}
use Rattle.rm_policy.specs.Alternatives.Limits.{Mentions}
use Rattle.rm_policy.specs.Alternatives.Sets.{TermSet, Choices, Rises}
use Rattle.rm_policy.specs.Alternatives.Terms.{term_cmp}
use Rattle.rm_policy.specs.Alternatives.Tree.{Policy, Policies, policies_of, first}
use Rattle.rm_policy.specs.declared.alternatives.error.WspError.{WspError}
use Rattle.rm_policy.specs.declared.alternatives.error.WspError.TheVariants.{Memory, Envelope, Malformed}
use Rattle.rm_policy.specs.declared.alternatives.error.WspError.TheVariants.{SecurityUnsupported, TooLarge}
use Rattle.rm_policy.specs.declared.alternatives.error.WspError.TheVariants.{TooManyTerms}
use Rattle.rm_policy.specs.declared.alternatives.error.WspError.TheVariants.{TooManyAlternatives}
use Rattle.rm_policy.specs.declared.alternatives.term.Term.{Term}

-- a mask is among these
abbrev pub has_mask : List ℕ → ℕ → Bool
has_mask [] n = false
has_mask (m ∷ ms) n = (m == n) || has_mask ms n

-- no mask stands twice
abbrev pub AreApart : List ℕ → Type 0
AreApart [] = Unit {0}
AreApart (m ∷ ms) = (has_mask ms m ≡ false) × AreApart ms

-- a term is listed
abbrev pub is_listed : List Term → Term → Bool
is_listed ts t = list_any (eq_by_cmp term_cmp t) ts

-- no term is listed twice
abbrev pub AreTermsApart : List Term → Type 0
AreTermsApart [] = Unit {0}
AreTermsApart (t ∷ ts) = (is_listed ts t ≡ false) × AreTermsApart ts

-- the set of the listed terms whose bits are set, where the first of them has bit i
abbrev pub chosen_from : ℕ → List Term → ℕ → TermSet
chosen_from i [] mask = empty
chosen_from i (t ∷ ts) mask =
    if bit_at mask i == 1 then insert (chosen_from (suc i) ts mask) t else chosen_from (suc i) ts mask

-- the first has bit 0
abbrev pub chosen : List Term → ℕ → TermSet
chosen ts mask = chosen_from 0 ts mask

-- each stands for a set of the listed terms
abbrev pub AreMasks : List Term → List ℕ → Type 0
AreMasks ts ms = (m : ℕ) → has_mask ms m ≡ true → m < 2 ^ length ts

-- exactly the masks of which something holds, each once
pub record AreExactly (P : ℕ → Type 0) (ms : List ℕ) : Type 0 where
  pub rises : Rises nat_cmp ms
  pub small : length ms ≤ most_alternatives
  pub sound : (m : ℕ) → has_mask ms m ≡ true → P m
  pub whole : (m : ℕ) → P m → has_mask ms m ≡ true

-- more of them than there may be
pub record AreMany (P : ℕ → Type 0) : Type 0 where
  pub masks : List ℕ
  pub rises : Rises nat_cmp masks
  pub many : most_alternatives < length masks
  pub sound : (m : ℕ) → has_mask masks m ≡ true → P m

-- what putting a mask to others that rise answers
abbrev pub AddAnswer : List ℕ → ℕ → List ℕ → Result (Unit {0}) WspError → Type 0
AddAnswer old m new (Ok u) = Rises nat_cmp old
    → (new ≡ insert_key nat_cmp old m) × ((has_mask old m ≡ true) ⊎ (length old < most_alternatives))
AddAnswer old m new (Err Memory) = Unit {0}
AddAnswer old m new (Err (Envelope e)) = ⊥
AddAnswer old m new (Err Malformed) = ⊥
AddAnswer old m new (Err (SecurityUnsupported name)) = ⊥
AddAnswer old m new (Err (TooLarge n)) = ⊥
AddAnswer old m new (Err (TooManyTerms n)) = ⊥
AddAnswer old m new (Err TooManyAlternatives) = Rises nat_cmp old
    → (has_mask old m ≡ false) × (most_alternatives ≤ length old)

-- what gathers masks answers
abbrev pub Gathers : (ℕ → Type 0) → List ℕ → Result (Unit {0}) WspError → Type 0
Gathers P ms (Ok u) = AreExactly P ms
Gathers P ms (Err Memory) = Unit {0}
Gathers P ms (Err (Envelope e)) = ⊥
Gathers P ms (Err Malformed) = ⊥
Gathers P ms (Err (SecurityUnsupported name)) = ⊥
Gathers P ms (Err (TooLarge n)) = ⊥
Gathers P ms (Err (TooManyTerms n)) = ⊥
Gathers P ms (Err TooManyAlternatives) = AreMany P

-- a mask of either list
abbrev pub OfEither : List ℕ → List ℕ → ℕ → Type 0
OfEither a b m = (has_mask a m || has_mask b m) ≡ true

-- what a mask of each list makes together
abbrev pub OfBoth : List ℕ → List ℕ → ℕ → Type 0
OfBoth a b m = (x : ℕ) × (y : ℕ) × (has_mask a x ≡ true) × (has_mask b y ≡ true) × (m ≡ bit_or x y)

-- the masks of exactly the sets that a policy admits, each once
pub record MasksOf (ts : List Term) (p : Policy) (ms : List ℕ) : Type 0 where
  pub rises : Rises nat_cmp ms
  pub small : length ms ≤ most_alternatives
  pub below : AreMasks ts ms
  pub sound : (m : ℕ) → has_mask ms m ≡ true → Admits p (chosen ts m)
  pub whole : (x : TermSet) → Admits p x → (m : ℕ) × (has_mask ms m ≡ true) × (x ≡ chosen ts m)

-- each term of the policy is listed
pub record AreListed (ts : List Term) (p : Policy) : Type 0 where
  pub each : (t : Term) → Mentions p t → is_listed ts t ≡ true

-- what comes of a policy
abbrev pub MasksAnswer : List Term → Policy → Result (List ℕ) WspError → Type 0
MasksAnswer ts p (Ok ms) = MasksOf ts p ms × (HasTooMany most_alternatives p → ⊥)
MasksAnswer ts p (Err Memory) = Unit {0}
MasksAnswer ts p (Err (Envelope e)) = ⊥
MasksAnswer ts p (Err Malformed) = ⊥
MasksAnswer ts p (Err (SecurityUnsupported name)) = ⊥
MasksAnswer ts p (Err (TooLarge n)) = ⊥
MasksAnswer ts p (Err (TooManyTerms n)) = ⊥
MasksAnswer ts p (Err TooManyAlternatives) = HasTooMany most_alternatives p

-- on the way there: what is not among the masks yet is still to come
pub record Gathering (P Left : ℕ → Type 0) (ms : List ℕ) : Type 0 where
  pub rises : Rises nat_cmp ms
  pub small : length ms ≤ most_alternatives
  pub sound : (m : ℕ) → has_mask ms m ≡ true → P m
  pub whole : (m : ℕ) → P m → (has_mask ms m ≡ true) ⊎ Left m

-- a term is one of the listed terms whose bits are set
abbrev pub is_picked : ℕ → List Term → ℕ → Term → Bool
is_picked i [] mask u = false
is_picked i (t ∷ ts) mask u = ((bit_at mask i == 1) && eq_by_cmp term_cmp u t) || is_picked (suc i) ts mask u

-- the alternatives that masks stand for
abbrev pub choices_of : List Term → List ℕ → Choices
choices_of ts ms = from_list (map (chosen ts) ms)

-- what a function that gathers masks in a new list answers
abbrev pub GathersAnswer : (ℕ → Type 0) → Result (List ℕ) WspError → Type 0
GathersAnswer P (Ok ms) = AreExactly P ms
GathersAnswer P (Err Memory) = Unit {0}
GathersAnswer P (Err (Envelope e)) = ⊥
GathersAnswer P (Err Malformed) = ⊥
GathersAnswer P (Err (SecurityUnsupported name)) = ⊥
GathersAnswer P (Err (TooLarge n)) = ⊥
GathersAnswer P (Err (TooManyTerms n)) = ⊥
GathersAnswer P (Err TooManyAlternatives) = AreMany P

-- the masks of an operator over some policies, of which none, and no prefix, has too many alternatives
pub record SoFar (op : Policies → Policy) (ts : List Term) (ps : List Policy) (ms : List ℕ) : Type 0 where
  pub masks : MasksOf ts (op (policies_of ps)) ms
  pub inner : OneHasTooMany most_alternatives (policies_of ps) → ⊥
  pub prefixes : (k : ℕ) → HasMore most_alternatives (op (first k (policies_of ps))) → ⊥

-- exactly the terms of which something holds were added
abbrev pub GathersTerms : (Term → Type 0) → List Term → List Term → Type 0
GathersTerms P old new = (t : Term) → (is_listed new t ≡ true) ↔ (P t ⊎ (is_listed old t ≡ true))

-- the listed terms whose bits are set, in order
abbrev pub picked_list : ℕ → List Term → ℕ → List Term
picked_list i [] mask = []
picked_list i (t ∷ ts) mask =
    if bit_at mask i == 1 then t ∷ picked_list (suc i) ts mask else picked_list (suc i) ts mask

-- so they were, and the terms rise
pub record Gathered (P : Term → Type 0) (old new : List Term) : Type 0 where
  pub rises : Rises term_cmp new
  pub terms : GathersTerms P old new

-- all terms of a policy, no more than it may have, in order
pub record IsTermList (p : Policy) (ts : List Term) : Type 0 where
  pub rises : Rises term_cmp ts
  pub few : length ts ≤ most_terms
  pub terms : HasTerms p (length ts)
  pub listed : AreListed ts p

-- why they are not listed
abbrev pub HasNoTermList : Policy → WspError → Type 0
HasNoTermList p Memory = Unit {0}
HasNoTermList p (Envelope e) = ⊥
HasNoTermList p Malformed = ⊥
HasNoTermList p (SecurityUnsupported name) = ⊥
HasNoTermList p (TooLarge n) = ⊥
HasNoTermList p (TooManyTerms n) = HasTerms p n × (most_terms < n)
HasNoTermList p TooManyAlternatives = ⊥
