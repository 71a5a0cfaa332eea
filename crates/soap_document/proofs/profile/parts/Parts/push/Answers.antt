use Rattle.std.proofs.Common.{[], ◌∷◌, ap, ◌∙◌}
use Rattle.soap_document.specs.Profile.Steps.{join}
use Rattle.soap_document.specs.Profile.Tree.{Parts}
use Rattle.soap_document.specs.Profile.View.{parts_view}
use Rattle.soap_document.proofs.ProfileLemmas.Listing.{parts_view-push}
use Rattle.soap_document.proofs.profile.parts.Parts.push.Goals as goal

pub returns-clause-ok : goal.returns-clause-ok
returns-clause-ok c =
    ap parts_view c.in_ok-push.ensures.items ∙ parts_view-push c.self.inside.items.items c.args.part
    ∙ ap (λ (parts : Parts). join parts (parts_view (c.args.part ∷ []))) c.self.view_is
