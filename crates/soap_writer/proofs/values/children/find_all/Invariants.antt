use Rattle.std.proofs.Common.{◌≡◌, ◌++◌, drop}
use Rattle.soap_document.specs.Profile.View.{parts_view}
use Rattle.soap_writer.specs.Values.Children.{name_in, children_named}
use Rattle.soap_writer.specs.Values.Steps.{lent_trees}
use Rattle.soap_writer.proofs.values.children.find_all.Given as goal

-- those so far, and those of what is left
abbrev pub invariant-loop-item : goal.invariant-loop-item
invariant-loop-item l =
    lent_trees l.children.items ++ children_named (name_in l.space l.local) (parts_view (drop l.item-index l.items))
    ≡ children_named (name_in l.space l.local) (parts_view l.items)
