use Rattle.std.proofs.Common.{◌≡◌, ◌++◌, take, drop}
use Rattle.std.specs.BTreeSet.{insert_key}
use Rattle.rm_policy.specs.Alternatives.Listed.{mask_cmp}
use Rattle.rm_policy.proofs.alternatives.normal.place_in.Given as goal

abbrev pub invariant-loop-i : goal.invariant-loop-i
invariant-loop-i l =
    insert_key (mask_cmp l.terms) l.ordered l.mask
    ≡ take l.i l.ordered ++ insert_key (mask_cmp l.terms) (drop l.i l.ordered) l.mask
