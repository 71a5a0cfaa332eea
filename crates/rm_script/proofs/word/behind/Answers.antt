use Rattle.std.proofs.lemmas.Bool.Decides.{Decides-eqb}
use Rattle.std.proofs.lemmas.Slice.Eq.{strip_prefix_is}
use Rattle.rm_script.specs.WordLemmas.{behind-stripped}
use Rattle.rm_script.proofs.word.behind.Goals as goal

pub returns : goal.returns
returns c =
    let bytes = c.args.bytes.now in
    let word = c.args.word.now in
    let r = c.strip_prefix.result in
    behind-stripped word bytes r (strip_prefix_is Decides-eqb bytes word r c.strip_prefix.ensures.cases)
