use Rattle.rm_serve.proofs.HearLemmas.{leaves-after}
use Rattle.rm_serve.proofs.laws.a_node_stays_up.Goals as goal

pub returns : goal.returns
returns c = leaves-after c.there_are_own_terms.ensures
