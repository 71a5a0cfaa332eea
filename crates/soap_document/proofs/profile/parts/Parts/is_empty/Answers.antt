use Rattle.std.proofs.Common.{◌≡◌, List, length, sym, ap, ◌∙◌}
use Rattle.std.proofs.lemmas.Bool.{eq-eqb}
use Rattle.soap_lex.specs.Facts.{nil_from_len}
use Rattle.soap_document.specs.Profile.Items.{Item, listed}
use Rattle.soap_document.specs.Profile.Tree.{Parts}
use Rattle.soap_document.proofs.ProfileLemmas.Listing.{length-listed}
use Rattle.soap_document.proofs.profile.parts.Parts.is_empty.Goals as goal

pub returns : goal.returns
returns c =
    let items = c.self.inside.items in
    let size : items.len ≡ length (listed c.args.self.now) =
    items.ok.0 ∙ sym (length-listed items.items c.self.invariant)
    ∙ ap (λ (parts : Parts). length (listed parts)) c.self.view_is in (
      λ empty. nil_from_len (listed c.args.self.now) items.len size (sym c.is_empty.ensures ∙ empty),
      λ none. c.is_empty.ensures ∙ eq-eqb items.len 0 (size ∙ ap (λ (xs : List Item). length xs) none),
    )
