use Rattle.std.proofs.Common.{◌≡◌, ◌++◌, drop}
use Rattle.soap_document.specs.Profile.View.{parts_view}
use Rattle.soap_writer.specs.Values.Children.{name_in, children_named}
use Rattle.soap_writer.specs.Values.Steps.{listed}
use Rattle.soap_writer.proofs.values.children.find_optional.Given as goal

-- the one so far, and those of what is left
abbrev pub invariant-loop-item : goal.invariant-loop-item
invariant-loop-item l =
    listed l.found ++ children_named (name_in l.space l.local) (parts_view (drop l.item-index l.items))
    ≡ children_named (name_in l.space l.local) (parts_view l.items)
