use Rattle.soap_lex.proofs.UniqueLemmas.{one_text}
use Rattle.soap_lex.proofs.laws.text_is_one.Goals as goal

pub returns : goal.returns
returns c = one_text
