use Rattle.std.proofs.lemmas.Slice.Eq.{strip_prefix_is}
use Rattle.std.proofs.lemmas.Bool.Decides.{Decides-eqb}
use Rattle.soap_document.proofs.Answer.{after_cases}
use Rattle.soap_document.proofs.declaration.after.Goals as goal

pub returns : goal.returns
returns c =
    let word = c.args.word.now in
    let bytes = c.args.bytes.now in
    after_cases word bytes c.strip_prefix.result (strip_prefix_is Decides-eqb bytes word c.strip_prefix.result
    c.strip_prefix.ensures.cases)
