use Rattle.std.proofs.Common.{◌≤◌, arith}
use Rattle.std.proofs.lemmas.Bool.{leb-true}
use Rattle.soap_lex.proofs.CodedLemmas.{triple_number, low_char, high_char, three_coded}
use Rattle.soap_lex.proofs.tokens.is_triple.Goals as goal

pub returns-then-number-ge2048 : goal.returns-then-number-ge2048
returns-then-number-ge2048 c = λ is rest.
    let number = triple_number c.args.a c.args.b c.args.c in
    let high : number ≤ 0xD7FF = leb-true number 0xD7FF is in
    three_coded c.args.a c.args.b c.args.c rest (omega arith) (omega arith) (omega arith) (omega arith) (omega arith)
    (omega arith) c.if-number-ge2048.true (low_char number (omega arith) high)

pub returns : goal.returns
returns c = λ is rest.
    let number = triple_number c.args.a c.args.b c.args.c in
    let high : number ≤ 0xFFFD = leb-true number 0xFFFD is in
    three_coded c.args.a c.args.b c.args.c rest (omega arith) (omega arith) (omega arith) (omega arith) (omega arith)
    (omega arith) (omega arith) (high_char number c.if-number-lt57344.false high)
