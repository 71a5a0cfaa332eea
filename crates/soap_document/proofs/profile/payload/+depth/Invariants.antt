use Rattle.std.proofs.Common.{◌≡◌, nat_le, drop}
use Rattle.soap_document.specs.Profile.Payload.{depth}
use Rattle.soap_document.specs.Profile.View.{parts_view}
use Rattle.soap_document.proofs.profile.payload.+depth.Given as goal

-- those that are left decide
abbrev pub invariant-are_shallow-loop-item : goal.invariant-are_shallow-loop-item
invariant-are_shallow-loop-item l =
    nat_le (depth (parts_view (drop l.item-index l.items))) l.levels ≡ nat_le (depth (parts_view l.items)) l.levels
