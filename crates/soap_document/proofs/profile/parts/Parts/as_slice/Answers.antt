use Rattle.std.proofs.Common.{sym, ap, ◌∙◌}
use Rattle.soap_document.specs.Profile.Items.{listed}
use Rattle.soap_document.specs.Profile.View.{items_view}
use Rattle.soap_document.proofs.ProfileLemmas.Listing.{listed_parts}
use Rattle.soap_document.proofs.profile.parts.Parts.as_slice.Goals as goal

pub returns : goal.returns
returns c =
    ap items_view c.as_slice.ensures.value ∙ sym (listed_parts c.self.inside.items.items c.self.invariant)
    ∙ ap listed c.self.view_is
