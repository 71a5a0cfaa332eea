use Rattle.std.proofs.Common.{◌≡◌, List, None, Some, codes, sym, subst, ◌∙◌}
use Rattle.std.proofs.lemmas.Bool.{true≢false}
use Rattle.std.specs.Vec.Iter.{into_iter_items}
use Rattle.soap_document.specs.Profile.Tree.{none, name_of}
use Rattle.soap_document.specs.Profile.View.{element_view, parts_view}
use Rattle.soap_document.specs.declared.profile.tree.Item.{Item}
use Rattle.soap_envelope.specs.Envelope.{name_in, IsSpaced}
use Rattle.soap_envelope.specs.Steps.{Outlined}
use Rattle.soap_envelope.proofs.Outlines.{no_outline_next, no_outline_here, outlined_body, outlined_header}
use Rattle.soap_envelope.proofs.outline.outline.Goals as goal
use Rattle.soap_envelope.proofs.outline.outline.Goals.{else-is_named-2-via-then-is_named-2+else-is_end}
use Rattle.soap_envelope.proofs.outline.outline.Goals.{else-is_named-2-via-else-is_named-2}

pub returns-in_default : goal.returns-in_default
returns-in_default c =
    subst (λ (xs : List Item). Outlined c.args.soap.now (parts_view xs) None) c.into_iter-parts.ensures.rest
    (no_outline_next c.args.soap.now (parts_view (into_iter_items c.into_iter-parts.result)) c.next_child.result
    (parts_view
    (into_iter_items c.next_child.new.parts)) c.next_child.ensures c.in_default.not-Child)

pub returns-then-is_named : goal.returns-then-is_named
returns-then-is_named c =
    subst (λ (xs : List Item). Outlined c.args.soap.now (parts_view xs) c.with_header.result)
    c.into_iter-parts.ensures.rest
    (outlined_header c.args.soap.now (parts_view (into_iter_items c.into_iter-parts.result)) c.in-Child.first
    (parts_view
    (into_iter_items c.next_child.new.parts)) c.in-Child.ensures (c.is_named.ensures.0 c.if-is_named.true)
    c.with_header.result c.with_header.ensures.found c.with_header.ensures.alone)

pub returns-then-is_end : goal.returns-then-is_end
returns-then-is_end c =
    subst (λ (xs : List Item). Outlined c.args.soap.now (parts_view xs) (Some (None, c.in-Child.first)))
    c.into_iter-parts.ensures.rest
    (outlined_body c.args.soap.now (parts_view (into_iter_items c.into_iter-parts.result)) c.in-Child.first (parts_view
    (into_iter_items c.next_child.new.parts)) c.in-Child.ensures (c.is_named-2.ensures.0 c.if-is_named-2.true)
    (c.is_end.ensures.0 c.if-is_end.true))

pub returns : goal.returns
returns c =
    let first = element_view c.in-Child.first in
    let rest = parts_view (into_iter_items c.next_child.new.parts) in
    let no_header : name_of first ≡ name_in c.args.soap.now (codes "Header")
    → ⊥ = λ n. true≢false (sym (c.is_named.ensures.1 n)
    ∙ c.if-is_named.false) in
    let no_body : name_of first ≡ name_in c.args.soap.now (codes "Body") → IsSpaced rest none → ⊥ =
    elim c.else-is_named-2.branch [
      | else-is_named-2-via-then-is_named-2+else-is_end w ↦ λ n e. true≢false (sym (w.is_end.ensures.1 e)
          ∙ w.if-is_end.false)
      | else-is_named-2-via-else-is_named-2 w ↦ λ n e. true≢false (sym (c.is_named-2.ensures.1 n)
          ∙ w.if-is_named-2.false)
    ] in
    subst (λ (xs : List Item). Outlined c.args.soap.now (parts_view xs) None) c.into_iter-parts.ensures.rest
    (no_outline_here c.args.soap.now (parts_view (into_iter_items c.into_iter-parts.result)) first rest
    c.in-Child.ensures no_header
    no_body)
