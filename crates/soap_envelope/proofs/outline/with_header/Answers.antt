use Rattle.std.proofs.Common.{◌≡◌, codes, sym, ◌∙◌}
use Rattle.std.proofs.lemmas.Bool.{true≢false}
use Rattle.std.specs.Vec.Iter.{into_iter_items}
use Rattle.soap_document.specs.Profile.Tree.{none, name_of}
use Rattle.soap_document.specs.Profile.View.{element_view, parts_view}
use Rattle.soap_envelope.specs.Envelope.{name_in, IsSpaced}
use Rattle.soap_envelope.proofs.Outlines.{no_body_next, no_body_here}
use Rattle.soap_envelope.proofs.outline.with_header.Goals as goal
use Rattle.soap_envelope.proofs.outline.with_header.Goals.{else-is_named-via-then-is_named+else-is_end}
use Rattle.soap_envelope.proofs.outline.with_header.Goals.{else-is_named-via-else-is_named}

pub returns-in_default : goal.returns-in_default
returns-in_default c = record {
  found = tt;
  alone = no_body_next c.args.soap.now (parts_view (into_iter_items c.args.parts.now)) c.next_child.result
      (parts_view (into_iter_items
      c.next_child.new.parts)) c.next_child.ensures c.in_default.not-Child;
}

pub returns-clause-alone : goal.returns-clause-alone
returns-clause-alone c =
    let body = element_view c.in-Child.body in
    let rest = parts_view (into_iter_items c.next_child.new.parts) in
    let no_body : name_of body ≡ name_in c.args.soap.now (codes "Body") → IsSpaced rest none → ⊥ =
    elim c.else-is_named.branch [
      | else-is_named-via-then-is_named+else-is_end w ↦ λ n e. true≢false (sym (w.is_end.ensures.1 e)
          ∙ w.if-is_end.false)
      | else-is_named-via-else-is_named w ↦ λ n e. true≢false (sym (c.is_named.ensures.1 n) ∙ w.if-is_named.false)
    ] in
    no_body_here c.args.soap.now (parts_view (into_iter_items c.args.parts.now)) body rest c.in-Child.ensures no_body
