use Rattle.std.proofs.Common.{◌≡◌, ◌≤◌, ◌++◌, drop, length}
use Rattle.std.specs.List.{filter}
use Rattle.rm_policy.proofs.AlternativesLemmas.CommonLemmas.{is_in, common}
use Rattle.rm_policy.specs.Alternatives.Normal.{AreAlternatives}
use Rattle.rm_policy.proofs.alternatives.common.intersect.Given as goal

-- those that both have so far, and those to come
abbrev pub invariant-loop-terms : goal.invariant-loop-terms
invariant-loop-terms l = AreAlternatives l.other → (length l.common ≤ 256) ×
    (l.common ++ filter (is_in l.other) (drop l.terms-index l.one) ≡ common l.one l.other)
