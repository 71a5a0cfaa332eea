use Rattle.soap_lex.proofs.UniqueLemmas.{one_value}
use Rattle.soap_lex.proofs.laws.value_is_one.Goals as goal

pub returns : goal.returns
returns c = one_value
