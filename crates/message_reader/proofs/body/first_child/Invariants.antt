use Rattle.std.proofs.Common.{◌≡◌, drop}
use Rattle.soap_document.specs.Profile.Tree.{children_of}
use Rattle.soap_document.specs.Profile.View.{parts_view}
use Rattle.message_reader.proofs.body.first_child.Given as goal

-- it is none of those so far
abbrev pub invariant-loop-item : goal.invariant-loop-item
invariant-loop-item l =
    children_of (parts_view (drop l.item-index l.items)) ≡ children_of (parts_view l.items)
