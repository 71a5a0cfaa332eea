use Rattle.std.proofs.Common.{◌≡◌, ◌++◌, drop}
use Rattle.soap_document.specs.Profile.Items.{stripped_items}
use Rattle.soap_document.specs.Profile.View.{items_view}
use Rattle.soap_document.proofs.profile.stripped.+stripping.Given as goal

-- the items so far, and those of what is left
abbrev pub invariant-strip_items-loop-item : goal.invariant-strip_items-loop-item
invariant-strip_items-loop-item l =
    items_view l.stripped.items ++ stripped_items (items_view (drop l.item-index l.items))
    ≡ stripped_items (items_view l.items)
