use Rattle.std.proofs.Common.{rules}
use Rattle.std.proofs.lemmas.Fn.{always_returns_same}
use Rattle.rm_policy.specs.Alternatives.Sets.{list_cmp}
use Rattle.rm_policy.proofs.alternatives.common.search.Goals as goal

-- the closure compares with the alternative
pub returns-clause-found : goal.returns-clause-found
returns-clause-found c =
    c.binary_search_by.ensures.position (λ l. list_cmp l c.args.terms.now)
    (always_returns_same _ _ _ (λ a r f called. search rules))
