use Rattle.node_tables.proofs.MakerLemmas.{number-bits}
use Rattle.node_tables.proofs.tables.Tables.number.Goals as goal

pub returns-clause-bits : goal.returns-clause-bits
returns-clause-bits c = number-bits _ c.self.invariant.holds
