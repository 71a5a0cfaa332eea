-- The policy that one of the code stands for: WS-Policy 1.5, section 4.3.
use Rattle.std.specs.Prelude.{ℕ, suc, zero, List, [], ◌∷◌, ◌++◌, Bool, map, Option, None, Some}
use Rattle.rm_policy.specs.declared.alternatives.term.Term.{Term}
use Rattle.rm_policy.specs.declared.alternatives.policy.Policy.{Policy as CodePolicy, Policy-F, fold-Policy}
use Rattle.rm_policy.specs.declared.alternatives.policy.Policies.{Policies-F}
use Rattle.rm_policy.specs.declared.alternatives.policy.Policy.TheOpen

-- operators over policies, and assertions, which may be optional
mutual
  pub data Policy : Type 0 where
    all : Policies → Policy
    exactly_one : Policies → Policy
    assertion : Term → Bool → Policy

  pub data Policies : Type 0 where
    none : Policies
    and : Policy → Policies → Policies

-- policies in order
abbrev pub policies_of : List Policy → Policies
policies_of [] = none
policies_of (p ∷ ps) = and p (policies_of ps)

-- the first n of them, or all where there are fewer
abbrev pub first : ℕ → Policies → Policies
first zero ps = none
first (suc n) none = none
first (suc n) (and p ps) = and p (first n ps)

-- one level, with each policy inside already seen so
abbrev pub policy_step : Policy-F Policy Policies → Policy
policy_step (TheOpen.Policy-F.All ps) = all ps
policy_step (TheOpen.Policy-F.ExactlyOne ps) = exactly_one ps
policy_step (TheOpen.Policy-F.Assert t optional) = assertion t optional

-- and one of several
abbrev pub policies_step : Policies-F Policy Policies → Policies
policies_step ps = policies_of ps.items.items

-- the policy that one of the code is
abbrev pub policy_view : CodePolicy → Policy
policy_view = fold-Policy Policy Policies policy_step policies_step

-- the policies that those of the code are
abbrev pub policies_view : List CodePolicy → Policies
policies_view ps = policies_of (map policy_view ps)

-- a pair of policies
abbrev pub pair_view : CodePolicy × CodePolicy → Policy × Policy
pair_view pair = (policy_view pair.0, policy_view pair.1)

-- the policies that an item stands for, one at most
abbrev pub policies_found : Option CodePolicy → Policies
policies_found None = none
policies_found (Some policy) = and (policy_view policy) none

-- policies of the code, with one more behind them, if there is one
abbrev pub put_to : Option CodePolicy → List CodePolicy → List CodePolicy
put_to None ps = ps
put_to (Some p) ps = ps ++ p ∷ []
