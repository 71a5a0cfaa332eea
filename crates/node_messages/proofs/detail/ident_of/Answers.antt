use Rattle.std.proofs.Common.{◌≡◌, ◌∙◌, Bool, true, cond, ap, sym}
use Rattle.std.specs.Prelude.{None}
use Rattle.soap_document.specs.Profile.Tree.{Element}
use Rattle.soap_document.specs.Profile.View.{element_view}
use Rattle.soap_writer.specs.Values.Values.{trimmed_text}
use Rattle.rm_protocol.specs.Detail.{ident_of}
use Rattle.node_messages.specs.Details.{is_identifier}
use Rattle.node_messages.proofs.DetailLemmas.{ident-is}
use Rattle.node_messages.proofs.detail.ident_of.Goals as goal

named : (e : Element) (b : Bool) → b ≡ is_identifier e → b ≡ true → ident_of e ≡ trimmed_text e
named e b is so = ident-is e ∙ ap (λ (x : Bool). cond x (trimmed_text e) None) (sym is ∙ so)

pub returns-then-not-is_identifier : goal.returns-then-not-is_identifier
returns-then-not-is_identifier c =
    sym (ident-is (element_view c.args.element.now)
    ∙ ap (λ (b : Bool). cond b (trimmed_text (element_view c.args.element.now)) None)
    (sym c.is_identifier.ensures ∙ c.if-not-is_identifier.true))

pub returns-in-Ok : goal.returns-in-Ok
returns-in-Ok c =
    let is = named (element_view c.args.element.now) c.is_identifier.result c.is_identifier.ensures
    c.if-not-is_identifier.false in
    let text = c.in-Ok.ensures in
    rw c.from_vec.ensures (sym (is ∙ text))

pub returns-in-Err-Malformed : goal.returns-in-Err-Malformed
returns-in-Err-Malformed c =
    let is = named (element_view c.args.element.now) c.is_identifier.result c.is_identifier.ensures
    c.if-not-is_identifier.false in
    let none = rw c.in-Err-Malformed.field-0-is at c.in-Err-Malformed.ensures in
    sym (is ∙ none)
