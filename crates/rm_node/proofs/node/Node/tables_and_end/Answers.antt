use Rattle.std.proofs.Common.{subst}
use Rattle.rm_node.specs.Noded.{Noded, Runs}
use Rattle.rm_node.proofs.CalledLemmas.{noded}
use Rattle.rm_node.proofs.TimedLemmas.{runs}
use Rattle.rm_node.proofs.node.Node.tables_and_end.Goals as goal

pub returns-clause-runs : goal.returns-clause-runs
returns-clause-runs c =
    let n : Noded = noded c.self.inside.store c.self.inside.kept in
    subst Runs c.self.view_is (runs n c.self.invariant)
