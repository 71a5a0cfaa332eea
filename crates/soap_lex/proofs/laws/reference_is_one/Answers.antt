use Rattle.soap_lex.proofs.ReferenceLemmas.{same_reference}
use Rattle.soap_lex.proofs.laws.reference_is_one.Goals as goal

pub returns : goal.returns
returns c = λ token rest other left character value. same_reference token other rest left character value
