use Rattle.std.proofs.lemmas.Slice.Eq.{strip_suffix_is}
use Rattle.std.proofs.lemmas.Bool.Decides.{Decides-eqb}
use Rattle.soap_lex.proofs.search.before.Goals as goal
use Rattle.soap_lex.specs.Ends.{without_cases}

pub returns : goal.returns
returns c =
    let word = c.args.word.now in
    let bytes = c.args.bytes.now in
    without_cases word bytes c.strip_suffix.result (strip_suffix_is Decides-eqb bytes word c.strip_suffix.result
    c.strip_suffix.ensures.cases)
