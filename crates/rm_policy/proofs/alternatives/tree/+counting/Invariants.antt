use Rattle.std.proofs.Common.{◌≡◌, ◌≤◌, ◌+◌, drop}
use Rattle.soap_document.specs.Profile.View.{parts_view}
use Rattle.rm_policy.specs.Alternatives.Reading.{count_among, counted}
use Rattle.rm_policy.proofs.alternatives.tree.+counting.Given as goal

-- those so far, and those of what is left
abbrev pub invariant-count_among-loop-item : goal.invariant-count_among-loop-item
invariant-count_among-loop-item l =
    (counted (l.count + count_among (parts_view (drop l.item-index l.items)))
    ≡ counted (count_among (parts_view l.items)))
    × (l.count ≤ 18446744073709551615)
