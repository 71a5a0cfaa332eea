use Rattle.soap_lex.proofs.AnswerLemmas.{lacks_answer3}
use Rattle.soap_lex.proofs.tokens.lacks_quote_and_markup.Goals as goal

pub returns : goal.returns
returns c = lacks_answer3 60 38 c.args.quote c.args.bytes.now c.memchr3.result c.is_none.result c.is_none.ensures
    c.memchr3.ensures
