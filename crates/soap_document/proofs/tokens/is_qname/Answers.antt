use Rattle.std.proofs.Common.{sym, ◌∙◌}
use Rattle.soap_document.proofs.Answer.{qname_parts, qname_whole}
use Rattle.soap_document.proofs.tokens.is_qname.Goals as goal

pub returns-then-is_name : goal.returns-then-is_name
returns-then-is_name c =
    let whole = qname_parts c.args.bytes.now (rw c.in-Some.is at c.cut.ensures) in
    c.is_name-then-is_name.ensures ∙ (rw (sym c.is_name.ensures ∙ c.if-is_name.true) at whole)

pub returns-else-is_name : goal.returns-else-is_name
returns-else-is_name c =
    let whole = qname_parts c.args.bytes.now (rw c.in-Some.is at c.cut.ensures) in
    c.if-is_name.false ∙ (rw (sym c.is_name.ensures ∙ c.if-is_name.false) at whole)

pub returns-in-None : goal.returns-in-None
returns-in-None c = c.is_name-in-None.ensures ∙ qname_whole c.args.bytes.now (rw c.in-None.is at c.cut.ensures)
