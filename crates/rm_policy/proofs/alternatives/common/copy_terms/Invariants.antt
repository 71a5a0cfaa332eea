use Rattle.std.proofs.Common.{◌≡◌, ◌++◌, drop}
use Rattle.rm_policy.proofs.alternatives.common.copy_terms.Given as goal

abbrev pub invariant-loop-term : goal.invariant-loop-term
invariant-loop-term l = l.copies ++ drop l.term-index l.terms ≡ l.terms
