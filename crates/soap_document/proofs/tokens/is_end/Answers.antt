use Rattle.std.proofs.Common.{sym, ap, ◌∙◌}
use Rattle.std.proofs.lemmas.Slice.Eq.{strip_prefix_is}
use Rattle.std.proofs.lemmas.Bool.Decides.{Decides-eqb}
use Rattle.soap_document.specs.Machine.{is_end}
use Rattle.soap_document.proofs.Answer.{end_none}
use Rattle.soap_document.proofs.TokenLaws.{end_begins}
use Rattle.soap_document.proofs.tokens.is_end.Goals as goal

pub returns-in-Some : goal.returns-in-Some
returns-in-Some c =
    let name = c.args.name.now in
    let e = rw c.in-Some.is at (strip_prefix_is Decides-eqb c.args.token.now name c.strip_prefix.result
    c.strip_prefix.ensures.cases) in
    c.is_white.ensures ∙ sym (ap (is_end name) e ∙ end_begins name c.in-Some.space.now)

pub returns-in-None : goal.returns-in-None
returns-in-None c = end_none c.args.name.now c.args.token.now (rw c.in-None.is at (strip_prefix_is Decides-eqb
    c.args.token.now c.args.name.now c.strip_prefix.result c.strip_prefix.ensures.cases))
