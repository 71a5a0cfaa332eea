use Rattle.node_laws.proofs.Owned.{own-are-terms}
use Rattle.node_laws.proofs.laws.own_terms_are_terms.Goals as goal

pub returns : goal.returns
returns c = own-are-terms c.a_byte_for_each_number.ensures
