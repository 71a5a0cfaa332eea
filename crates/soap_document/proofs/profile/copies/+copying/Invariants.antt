use Rattle.std.proofs.Common.{◌≡◌, ◌++◌, drop}
use Rattle.soap_document.specs.Profile.View.{items_view}
use Rattle.soap_document.proofs.profile.copies.+copying.Given as goal

-- the items so far, and those of what is left
abbrev pub invariant-copy_items-loop-item : goal.invariant-copy_items-loop-item
invariant-copy_items-loop-item l =
    items_view l.copy.items ++ items_view (drop l.item-index l.items) ≡ items_view l.items
