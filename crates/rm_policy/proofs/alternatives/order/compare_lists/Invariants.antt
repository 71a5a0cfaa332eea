use Rattle.std.proofs.Common.{◌≡◌, drop}
use Rattle.rm_policy.specs.Alternatives.Sets.{list_cmp}
use Rattle.rm_policy.proofs.alternatives.order.compare_lists.Given as goal

abbrev pub invariant-loop-i : goal.invariant-loop-i
invariant-loop-i l = list_cmp (drop l.i l.one) (drop l.i l.other) ≡ list_cmp l.one l.other
