use Rattle.std.proofs.Common.{◌≡◌, ◌++◌}
use Rattle.std.specs.Vec.Iter.{into_iter_items}
use Rattle.soap_document.specs.Profile.Tree.{children_of}
use Rattle.soap_document.specs.Profile.View.{parts_view}
use Rattle.soap_envelope.proofs.outline.children.Given as goal

-- the elements so far, and those of what is left
abbrev pub invariant-loop-item : goal.invariant-loop-item
invariant-loop-item l =
    l.children ++ children_of (parts_view (into_iter_items l.item-iterator))
    ≡ children_of (parts_view l.fn.items.items)
