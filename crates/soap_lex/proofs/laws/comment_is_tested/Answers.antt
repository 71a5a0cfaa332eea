use Rattle.soap_lex.proofs.EndLemmas.{comment_open}
use Rattle.soap_lex.proofs.TestLemmas.{comment_from, comment_passes}
use Rattle.soap_lex.proofs.laws.comment_is_tested.Goals as goal

pub returns-clause-test : goal.returns-clause-test
returns-clause-test c = λ bytes. (comment_from bytes, comment_passes bytes)

pub returns-clause-end : goal.returns-clause-end
returns-clause-end c = comment_open
