use Rattle.std.proofs.Common.{◌≡◌, ◌++◌, drop}
use Rattle.soap_document.specs.Profile.Tree.{children_of}
use Rattle.soap_document.specs.Profile.View.{parts_view}
use Rattle.soap_writer.specs.Values.Steps.{listed}
use Rattle.message_reader.proofs.body.only_child.Given as goal

-- the one so far, and those of what is left
abbrev pub invariant-loop-item : goal.invariant-loop-item
invariant-loop-item l =
    listed l.found ++ children_of (parts_view (drop l.item-index l.items)) ≡ children_of (parts_view l.items)
