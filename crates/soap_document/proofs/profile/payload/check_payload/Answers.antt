use Rattle.std.proofs.Common.{◌≡◌, Bool, List, Some, IsTrue, ◌↔◌, option_map, sym, ap, subst, ◌∙◌}
use Rattle.soap_document.specs.Inside.{around}
use Rattle.soap_document.specs.Profile.Payload.{IsClosedContent}
use Rattle.soap_document.specs.Profile.Resolving.{root_view}
use Rattle.soap_document.specs.Profile.View.{decls_view, attrs_view, parts_view}
use Rattle.soap_document.specs.declared.profile.tree.Item.{Item}
use Rattle.soap_document.proofs.ProfileLemmas.Roots.{read}
use Rattle.soap_document.proofs.ProfileLemmas.Payloads.{Frames, not_closed, elsewhere, closed, is_payload}
use Rattle.soap_document.proofs.ProfileLemmas.Items.{element_is}
use Rattle.soap_document.proofs.profile.payload.check_payload.Goals.{In_ok-root, then-is_whole, else-is_whole}
use Rattle.soap_document.proofs.profile.payload.check_payload.Goals as goal

frames : (c : In_ok-root) → Frames
frames c = record {
  made = c.content_makes_a_document.ensures.made;
  found = c.content_makes_a_document.ensures.found;
}

pub returns-in_default : goal.returns-in_default
returns-in_default c =
    let d = (goal.at.returns-in_default c).In_ok-root in
    not_closed c.document_is_read.ensures (frames d) c.args.bytes.now (sym c.in_ok-root.ensures
    ∙ ap (option_map root_view) c.in_default.is)

pub returns : goal.returns
returns c =
    let bytes = c.args.bytes.now in
    let d = (goal.at.returns c).In_ok-root in
    let root = c.in-Some.root in
    let is : read (around bytes) ≡ Some (root_view root) = sym c.in_ok-root.ensures
    ∙ ap (option_map root_view) c.in-Some.is in
    elim c.if-is_whole.branch [
      | then-is_whole w ↦
          let tree = root.tree in
          let items = tree.items.items in
          closed c.document_is_read.ensures (frames d) bytes (root_view root) tree.name (decls_view items)
          (attrs_view items) (parts_view items)
          c.if-is_whole.result is (sym c.is_whole.ensures ∙ w.if-is_whole.true) (element_is tree) (w.result-is
          ∙ w.is_payload.ensures ∙ ap (λ (items : List Item). is_payload (parts_view items)) w.as_slice.ensures.value)
      | else-is_whole w ↦
          subst (λ (b : Bool). IsTrue b ↔ IsClosedContent bytes) (sym (w.result-is ∙ w.if-is_whole.false)) (elsewhere
          c.document_is_read.ensures (frames d) bytes (root_view root) is (sym c.is_whole.ensures
          ∙ w.if-is_whole.false))
    ]
