use Rattle.std.proofs.Common.{◌≡◌, drop}
use Rattle.soap_document.specs.Profile.View.{parts_view}
use Rattle.rm_policy.specs.Alternatives.Reading.{is_childless}
use Rattle.rm_policy.proofs.alternatives.tree.is_childless.Given as goal

-- those that are left decide
abbrev pub invariant-loop-item : goal.invariant-loop-item
invariant-loop-item l = is_childless (parts_view (drop l.item-index l.items)) ≡ is_childless (parts_view l.items)
