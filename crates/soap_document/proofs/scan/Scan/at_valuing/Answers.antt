use Rattle.std.proofs.Common.{rules, ◌≡◌, [], sym, ap, ap₂, ◌∙◌}
use Rattle.soap_lex.specs.ValueMachine.{begun}
use Rattle.soap_lex.specs.Readers.{value_state}
use Rattle.soap_document.specs.Machine.{value_inner}
use Rattle.soap_document.specs.Seen.{seen}
use Rattle.soap_document.proofs.Steps.{value_begins}
use Rattle.soap_document.proofs.scan.Scan.at_valuing.Goals as goal

pub returns-in_default : goal.returns-in_default
returns-in_default c = λ top below. search (rules, c.refuse.ensures top below)

pub returns : goal.returns
returns c = λ top below.
    let empty : value_state c.restart.new.self c.clear.new.self.items ≡ begun c.args.byte [] =
    c.restart.ensures c.clear.new.self.items ∙ ap₂ begun c.in-Some.ensures.some c.clear.ensures.items in
    ap (λ v. record (seen c.args.self.now top below) { mode = value_inner; value = v }) empty
    ∙ value_begins (seen c.args.self.now top below) c.args.byte c.in-Some.quote c.in-Some.ensures.some
    (sym c.is_space.ensures ∙ c.if-is_space.false)
