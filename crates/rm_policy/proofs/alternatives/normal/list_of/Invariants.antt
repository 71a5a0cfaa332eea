use Rattle.std.proofs.Common.{◌≡◌, ◌++◌, drop}
use Rattle.rm_policy.specs.Alternatives.Masks.{picked_list}
use Rattle.rm_policy.proofs.alternatives.normal.list_of.Given as goal

abbrev pub invariant-loop-i : goal.invariant-loop-i
invariant-loop-i l = l.list ++ picked_list l.i (drop l.i l.terms) l.mask ≡ picked_list 0 l.terms l.mask
