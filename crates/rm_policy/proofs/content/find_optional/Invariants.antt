use Rattle.std.proofs.Common.{◌≡◌, ◌++◌, drop}
use Rattle.soap_document.specs.Profile.View.{parts_view}
use Rattle.soap_writer.specs.Values.Steps.{listed}
use Rattle.rm_policy.specs.Content.{children_as}
use Rattle.rm_policy.proofs.content.find_optional.Given as goal

-- the one so far, and those of what is left
abbrev pub invariant-loop-item : goal.invariant-loop-item
invariant-loop-item l =
    listed l.found ++ children_as l.word (parts_view (drop l.item-index l.items))
    ≡ children_as l.word (parts_view l.items)
