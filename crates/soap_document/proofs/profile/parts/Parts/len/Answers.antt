use Rattle.std.proofs.Common.{length, sym, ap, ◌∙◌}
use Rattle.soap_document.specs.Profile.Items.{listed}
use Rattle.soap_document.specs.Profile.Tree.{Parts}
use Rattle.soap_document.proofs.ProfileLemmas.Listing.{length-listed}
use Rattle.soap_document.proofs.profile.parts.Parts.len.Goals as goal

pub returns : goal.returns
returns c =
    c.len.ensures ∙ c.self.inside.items.ok.0 ∙ sym (length-listed c.self.inside.items.items c.self.invariant)
    ∙ ap (λ (parts : Parts). length (listed parts)) c.self.view_is
