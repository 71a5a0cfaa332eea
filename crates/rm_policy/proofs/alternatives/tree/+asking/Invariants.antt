use Rattle.std.proofs.Common.{◌≡◌, drop}
use Rattle.soap_document.specs.Profile.View.{parts_view}
use Rattle.rm_policy.specs.Alternatives.Reading.{asked_among}
use Rattle.rm_policy.proofs.alternatives.tree.+asking.Given as goal

-- those that are left have the first
abbrev pub invariant-find_asked_among-loop-item : goal.invariant-find_asked_among-loop-item
invariant-find_asked_among-loop-item l =
    asked_among (parts_view (drop l.item-index l.items)) ≡ asked_among (parts_view l.items)
