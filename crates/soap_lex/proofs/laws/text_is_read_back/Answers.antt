use Rattle.soap_lex.proofs.BackLemmas.{text_back}
use Rattle.soap_lex.proofs.laws.text_is_read_back.Goals as goal

pub returns : goal.returns
returns c = text_back
