use Rattle.soap_lex.proofs.TextRead.{text_takes}
use Rattle.soap_lex.proofs.laws.text_is_taken.Goals as goal

pub returns : goal.returns
returns c = λ bytes meaning before is. text_takes is before
