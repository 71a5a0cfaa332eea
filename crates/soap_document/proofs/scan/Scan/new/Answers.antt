use Rattle.std.proofs.Common.{rules, ◌≡◌, [], ap, ◌∙◌}
use Rattle.soap_lex.specs.TextMachine.{begun as begun_text}
use Rattle.soap_lex.specs.ValueMachine.{begun}
use Rattle.soap_lex.specs.Readers.{text_state, value_state}
use Rattle.soap_document.specs.Machine.{no_value}
use Rattle.soap_document.proofs.scan.Scan.new.Goals as goal

pub returns : goal.returns
returns c =
    let no_words : text_state c.new-2.result c.new-3.result.items ≡ begun_text [] =
    c.new-2.ensures c.new-3.result.items ∙ ap begun_text c.new-3.ensures.items in
    let empty : value_state c.new-7.result c.new-8.result.items ≡ no_value =
    c.new-7.ensures c.new-8.result.items ∙ ap (begun 34) c.new-8.ensures.items in
    search rules
