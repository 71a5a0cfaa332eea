use Rattle.rm_policy.proofs.Back.{read_back}
use Rattle.rm_policy.proofs.laws.assertion_is_read_back.Goals as goal

pub returns : goal.returns
returns c = λ a is. read_back c.document_is_read.ensures c.document_is_utf8.ensures a is
