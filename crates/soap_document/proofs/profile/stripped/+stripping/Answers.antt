use Rattle.std.proofs.Common.{ap, ◌∙◌}
use Rattle.soap_document.specs.Profile.Items.{stripped_items}
use Rattle.soap_document.specs.Profile.View.{items_view}
use Rattle.soap_document.proofs.ProfileLemmas.Items.{element-stripped}
use Rattle.soap_document.proofs.profile.stripped.+stripping.Goals as goal

pub strip-returns : goal.strip-returns
strip-returns t c =
    element-stripped _ c.args.element.now c.in_ok-name.ensures
    (c.in_ok-items.ensures ∙ ap (λ xs. stripped_items (items_view xs)) c.as_slice.ensures.value)
