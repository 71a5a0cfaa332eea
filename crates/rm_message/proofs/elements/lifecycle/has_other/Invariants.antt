use Rattle.std.proofs.Common.{◌≡◌, drop}
use Rattle.soap_document.specs.Profile.View.{parts_view}
use Rattle.rm_message.specs.Elements.Lifecycle.{has_other}
use Rattle.rm_message.proofs.elements.lifecycle.has_other.Given as goal

-- those that are left decide
abbrev pub invariant-loop-item : goal.invariant-loop-item
invariant-loop-item l = has_other (parts_view (drop l.item-index l.items)) ≡ has_other (parts_view l.items)
