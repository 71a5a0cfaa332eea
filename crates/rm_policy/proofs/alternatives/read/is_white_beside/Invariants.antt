use Rattle.std.proofs.Common.{◌≡◌, drop}
use Rattle.soap_document.specs.Profile.Payload.{is_white_outside}
use Rattle.soap_document.specs.Profile.View.{parts_view}
use Rattle.rm_policy.proofs.alternatives.read.is_white_beside.Given as goal

-- those that are left decide
abbrev pub invariant-loop-item : goal.invariant-loop-item
invariant-loop-item l = is_white_outside (parts_view (drop l.item-index l.items))
    ≡ is_white_outside (parts_view l.items)
