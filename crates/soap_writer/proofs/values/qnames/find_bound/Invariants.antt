use Rattle.std.proofs.Common.{◌≡◌, drop}
use Rattle.soap_document.specs.Profile.Namespaces.{bound}
use Rattle.soap_writer.specs.Values.QNames.{within}
use Rattle.soap_writer.specs.Values.Steps.{lent_trees}
use Rattle.soap_writer.proofs.values.qnames.find_bound.Given as goal

-- none of those so far binds it
abbrev pub invariant-loop-element : goal.invariant-loop-element
invariant-loop-element l =
    bound l.prefix (within (lent_trees (drop l.element-index l.elements)) l.outer)
    ≡ bound l.prefix (within (lent_trees l.elements) l.outer)
