use Rattle.std.proofs.Common.{◌≡◌, ◌++◌, drop, map}
use Rattle.soap_document.specs.Profile.Tree.{children_of, without_declarations}
use Rattle.soap_document.specs.Profile.View.{parts_view}
use Rattle.message_reader.proofs.fault.strip_each.Given as goal

-- those so far, and those of what is left
abbrev pub invariant-loop-item : goal.invariant-loop-item
invariant-loop-item l =
    l.elements ++ map without_declarations (children_of (parts_view (drop l.item-index l.items)))
    ≡ map without_declarations (children_of (parts_view l.items))
