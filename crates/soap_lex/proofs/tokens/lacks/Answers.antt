use Rattle.soap_lex.proofs.AnswerLemmas.{lacks_answer}
use Rattle.soap_lex.proofs.tokens.lacks.Goals as goal

pub returns : goal.returns
returns c = lacks_answer c.args.bytes.now c.args.word.now c.find.result c.is_none.result c.is_none.ensures
    c.find.ensures
