use Rattle.std.proofs.Common.{◌≡◌, drop}
use Rattle.soap_document.specs.Profile.View.{parts_view}
use Rattle.rm_policy.specs.Content.{holds_only}
use Rattle.rm_policy.proofs.content.holds_only.Given as goal

-- those that are left decide
abbrev pub invariant-loop-item : goal.invariant-loop-item
invariant-loop-item l =
    holds_only l.words (parts_view (drop l.item-index l.items)) ≡ holds_only l.words (parts_view l.items)
