use Rattle.rm_node.proofs.HeardLemmas.{only}
use Rattle.rm_node.proofs.node.Node.receive.Goals as goal

pub returns-clause-kinds : goal.returns-clause-kinds
returns-clause-kinds g c = only c.there_are_own_terms.ensures _ _ _ c.args.self.now _ _ _ _ c.step.ensures
