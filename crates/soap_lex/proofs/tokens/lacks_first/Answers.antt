use Rattle.std.proofs.Common.{arith}
use Rattle.soap_lex.proofs.AnswerLemmas.{lacks_word}
use Rattle.soap_lex.proofs.tokens.lacks_first.Goals as goal

pub returns-in-len1-up : goal.returns-in-len1-up
returns-in-len1-up c = λ is.
    lacks_word c.args.bytes.now c.args.word.now (omega (arith, c.in-len1-up.len_at_least)) (c.lacks_byte.ensures is)
