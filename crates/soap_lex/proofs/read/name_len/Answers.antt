use Rattle.std.proofs.Common.{sym, ◌∙◌}
use Rattle.soap_lex.proofs.NameLemmas.{longest_run, run_within, no_name}
use Rattle.soap_lex.proofs.read.name_len.Goals as goal

pub returns-then-begins_name-clause-bound : goal.returns-then-begins_name-clause-bound
returns-then-begins_name-clause-bound c = run_within c.args.text.now c.name_chars_len.result c.name_chars_len.ensures

pub returns-then-begins_name-clause-found : goal.returns-then-begins_name-clause-found
returns-then-begins_name-clause-found c =
    longest_run c.args.text.now c.name_chars_len.result c.utf8.text (sym c.begins_name.ensures
    ∙ c.if-begins_name.true) c.name_chars_len.ensures

pub returns-else-begins_name-clause-none : goal.returns-else-begins_name-clause-none
returns-else-begins_name-clause-none c = λ name rest there is.
    no_name c.args.text.now name rest c.utf8.text (sym c.begins_name.ensures ∙ c.if-begins_name.false) there is
