use Rattle.std.proofs.Common.{◌≡◌, drop}
use Rattle.soap_document.specs.Profile.View.{parts_view}
use Rattle.soap_writer.specs.Values.Children.{name_in, children_named}
use Rattle.message_reader.proofs.fault.find_first.Given as goal

-- it is none of those so far
abbrev pub invariant-loop-item : goal.invariant-loop-item
invariant-loop-item l =
    children_named (name_in l.space l.local) (parts_view (drop l.item-index l.items))
    ≡ children_named (name_in l.space l.local) (parts_view l.items)
