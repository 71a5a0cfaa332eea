use Rattle.std.proofs.Common.{◌≡◌, ◌++◌}
use Rattle.std.specs.Vec.Iter.{into_iter_items}
use Rattle.soap_document.specs.Profile.View.{items_view}
use Rattle.wsa_headers.specs.Steps.{unmarked_items}
use Rattle.wsa_headers.proofs.endpoint.unmarked_among.Given as goal

-- those that were kept, and those of what is left
abbrev pub invariant-loop-item : goal.invariant-loop-item
invariant-loop-item l =
    items_view l.kept.items ++ unmarked_items (items_view (into_iter_items l.item-iterator))
    ≡ unmarked_items (items_view l.fn.items.items)
