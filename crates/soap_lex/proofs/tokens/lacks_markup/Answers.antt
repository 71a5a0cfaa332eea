use Rattle.soap_lex.proofs.AnswerLemmas.{lacks_answer2}
use Rattle.soap_lex.proofs.tokens.lacks_markup.Goals as goal

pub returns : goal.returns
returns c = lacks_answer2 60 38 c.args.bytes.now c.memchr2.result c.is_none.result c.is_none.ensures c.memchr2.ensures
