use Rattle.std.proofs.lemmas.Slice.Eq.{strip_prefix_is}
use Rattle.std.proofs.lemmas.Bool.Decides.{Decides-eqb}
use Rattle.soap_lex.proofs.HeldLemmas.{goes_on_some, goes_on_none}
use Rattle.soap_lex.proofs.decide.goes_on.Goals as goal

pub returns-in-Some : goal.returns-in-Some
returns-in-Some c =
    let word = c.args.word.now in
    let token = c.args.token.now in
    goes_on_some word token c.args.byte c.strip_prefix.result (strip_prefix_is Decides-eqb word token
    c.strip_prefix.result c.strip_prefix.ensures.cases) c.in-Some.rest c.in-Some.is c.starts.result c.starts.ensures

pub returns-in-None : goal.returns-in-None
returns-in-None c =
    let word = c.args.word.now in
    let token = c.args.token.now in
    goes_on_none word token c.args.byte c.strip_prefix.result (strip_prefix_is Decides-eqb word token
    c.strip_prefix.result c.strip_prefix.ensures.cases) c.in-None.is
