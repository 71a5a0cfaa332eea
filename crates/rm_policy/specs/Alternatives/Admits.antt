-- Which sets of assertions a policy admits: WS-Policy 1.5, sections 4.3.1 to 4.3.4.
use Rattle.std.specs.Prelude.{◌≡◌, true, ◌⊎◌}
use Rattle.std.specs.FinSet.{empty, insert, union}
use Rattle.rm_policy.specs.Alternatives.Tree.{Policy, Policies, all, exactly_one, assertion, none, and}
use Rattle.rm_policy.specs.Alternatives.Sets.{TermSet}

-- an assertion admits itself alone, and nothing too where it is optional; ExactlyOne what one of its policies admits;
-- All what one admitted set of each of its policies makes together
abbrev mutual
  pub Admits : Policy → TermSet → Type 0
  Admits (assertion t optional) x = (x ≡ insert empty t) ⊎ ((optional ≡ true) × (x ≡ empty))
  Admits (exactly_one ps) x = OneAdmits ps x
  Admits (all ps) x = EachAdmits ps x

  pub OneAdmits : Policies → TermSet → Type 0
  OneAdmits none x = ⊥
  OneAdmits (and p ps) x = Admits p x ⊎ OneAdmits ps x

  pub EachAdmits : Policies → TermSet → Type 0
  EachAdmits none x = x ≡ empty
  EachAdmits (and p ps) x = (y : TermSet) × (z : TermSet) × Admits p y × EachAdmits ps z × (x ≡ union y z)
