use Rattle.soap_lex.proofs.BackLemmas.{value_back}
use Rattle.soap_lex.proofs.laws.value_is_read_back.Goals as goal

pub returns : goal.returns
returns c = value_back
