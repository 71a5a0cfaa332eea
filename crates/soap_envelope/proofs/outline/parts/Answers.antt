use Rattle.std.proofs.Common.{rules, ◌≡◌, List, [], sym, ap, ◌∙◌, arith}
use Rattle.std.proofs.lemmas.Grind.{common_steps}
use Rattle.std.specs.Vec.Iter.{into_iter_items}
use Rattle.soap_document.specs.Profile.Steps.{join}
use Rattle.soap_document.specs.Profile.View.{parts_view}
use Rattle.soap_document.specs.declared.profile.tree.Item.{Item}
use Rattle.soap_envelope.proofs.Parted.{join_none}
use Rattle.soap_envelope.proofs.outline.parts.Goals as goal

pub returns : goal.returns
returns c =
    let left : into_iter_items c.loop-item.item-iterator ≡ [] =
    first_of (search rules, grind (arith, common_steps)) in
    sym (join_none c.loop-item.parts)
    ∙ ap (λ (xs : List Item). join c.loop-item.parts (parts_view xs)) (sym left) ∙ c.loop-item.invariant
