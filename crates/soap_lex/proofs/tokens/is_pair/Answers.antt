use Rattle.std.proofs.Common.{◌≤◌, arith}
use Rattle.std.proofs.lemmas.Bool.{leb-true}
use Rattle.soap_lex.proofs.CodedLemmas.{two_coded}
use Rattle.soap_lex.proofs.tokens.is_pair.Goals as goal

pub returns-then-b-ge128 : goal.returns-then-b-ge128
returns-then-b-ge128 c = λ is rest.
    let high : c.args.b ≤ 191 = leb-true c.args.b 191 is in
    two_coded c.args.a c.args.b rest (omega arith) (omega arith) (omega arith) (omega arith)
