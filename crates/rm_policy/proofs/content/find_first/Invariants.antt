use Rattle.std.proofs.Common.{◌≡◌, drop}
use Rattle.soap_document.specs.Profile.View.{parts_view}
use Rattle.rm_policy.specs.Content.{children_as}
use Rattle.rm_policy.proofs.content.find_first.Given as goal

-- the children are those that are left
abbrev pub invariant-loop-item : goal.invariant-loop-item
invariant-loop-item l =
    children_as l.word (parts_view (drop l.item-index l.items)) ≡ children_as l.word (parts_view l.items)
