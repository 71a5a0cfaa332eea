use Rattle.std.proofs.Common.{rules, ◌≡◌, true, sym, ap, ◌∙◌}
use Rattle.soap_lex.specs.ValueMachine.{begun, is_closed}
use Rattle.soap_lex.specs.Readers.{value_state}
use Rattle.soap_document.specs.Machine.{no_value}
use Rattle.soap_document.specs.Seen.{seen}
use Rattle.soap_document.proofs.Values.{open_value, refused_value, refused_open}
use Rattle.soap_document.proofs.scan.Scan.at_value.Goals as goal

pub returns-then-is_refused : goal.returns-then-is_refused
returns-then-is_refused c = λ top below.
    let refuses = sym (c.is_refused.ensures c.args.self.now.value.items) ∙ c.if-is_refused.true in
    c.refuse.ensures top below ∙ sym (refused_value (seen c.args.self.now top below) (refused_open _ refuses) refuses)

pub returns-then-not-is_closed : goal.returns-then-not-is_closed
returns-then-not-is_closed c = λ top below.
    let value = c.args.self.now.value.items in
    sym (open_value (seen c.args.self.now top below) (sym (c.is_closed.ensures value) ∙ c.if-not-is_closed.true)
    (sym (c.is_refused.ensures value) ∙ c.if-is_refused.false))

pub returns : goal.returns
returns c = λ top below.
    let closes : is_closed (value_state c.args.self.now.valued c.args.self.now.value.items).mode ≡ true =
    sym (c.is_closed.ensures c.args.self.now.value.items) ∙ c.if-not-is_closed.false in
    let empty : value_state c.restart.new.self c.clear.new.self.items ≡ no_value =
    c.restart.ensures c.clear.new.self.items ∙ ap (begun 34) c.clear.ensures.items in
    search rules
