use Rattle.std.proofs.Common.{◌≡◌, drop}
use Rattle.soap_document.specs.Profile.View.{parts_view}
use Rattle.rm_policy.specs.Alternatives.Reading.{policies_in}
use Rattle.rm_policy.specs.Alternatives.Tree.{policies_view}
use Rattle.rm_policy.proofs.AlternativesLemmas.ReadLemmas.{behind}
use Rattle.rm_policy.proofs.alternatives.tree.+reading.Given as goal

-- those so far, and those of what is left
abbrev pub invariant-read_each-loop-item : goal.invariant-read_each-loop-item
invariant-read_each-loop-item l =
    behind (policies_view l.policies.items) (policies_in (parts_view (drop l.item-index l.items)))
    ≡ policies_in (parts_view l.items)
